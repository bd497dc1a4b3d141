-- What an accepted book fixes, and the step by which a rule walks over its keys.
use Prim.Native.Nat.{ℕ, zero, suc, ◌+◌, ◌-◌, ◌*◌, ◌≤◌, ◌<◌}
use mathlib.Core.Path.{◌≡◌, refl, ap}
use mathlib.Core.Bool.{Bool, true, false, cond}
use mathlib.Core.List.{List, [], ◌∷◌}
use native.Mathlib.Omega.{arith}
use lib.ListN.{length, take, drop, length-take, length-drop}
use borrow.Author.Tests.{ltb-false}
use Rattle.bits.specs.Bits.{le_at}
use Rattle.bits.proofs.Laws.{le_part}
use Rattle.book.specs.declared.Header.{Header}
use Rattle.book.specs.declared.Places.{Places}
use Rattle.book.specs.declared.KeyHead.{KeyHead}
use Rattle.book.specs.declared.KeyFront.{KeyFront}
use Rattle.book.specs.declared.refusal.Refusal.{Refusal}
use Rattle.std.specs.Prelude.{Result, Ok, Err}
use Rattle.book.specs.Book.{header_of, places_of, words_table, gens_table, alloc_table, words_from, gens_from, alloc_from, key_head, key_end, key_of, keys_from, book_of}
use Rattle.book.specs.KeyMaps.{drawn_from, parents_of}
use Rattle.book.specs.Refusals.{keys_verdict, parts_verdict, book_verdict, Outcome, outcome_of, parse, Verdict, refusal}
use Rattle.book.specs.Walk.{Opened, KeysFit, Rising, front_of}
use Rattle.book.proofs.Laws.{both_passed, test_fails, key_end_lem, key_fits}
use Rattle.book.proofs.Tables.{table_rises}

-- where the keys pass, they fit
keys_fit : (trees : Bool) (s : List ℕ) (n p : ℕ) → keys_verdict trees s n p ≡ Ok tt → KeysFit s n p
unfolding keys_verdict KeysFit
keys_fit trees s zero p h = tt
keys_fit trees s (suc n) p h =
    let each = both_passed _ _ h in
    (key_fits trees s p each.0, keys_fit trees s n (key_end s p) each.1)

-- what a rule goes by in an accepted book with this header and these places
pub record Parts (s : List ℕ) (h : Header) (at : Places) : Type 0 where
  pub small : length s ≤ 1048576
  pub header : (book_of s).header ≡ h
  pub keys_fit : KeysFit s h.keys at.keys
  pub keys : (book_of s).keys ≡ keys_from s h.keys at.keys
  pub parents_rise : Rising words_table s at.parents h.parents
  pub parents : h.drawn ≡ false → parents_of (book_of s) ≡ words_from s h.parents at.parents
  pub drawn : h.drawn ≡ true → parents_of (book_of s) ≡ drawn_from (keys_from s h.keys at.keys)
  pub subvolumes_rise : Rising words_table s at.subvolumes h.subvolumes
  pub subvolumes : (book_of s).subvolumes ≡ words_from s h.subvolumes at.subvolumes
  pub gens_rise : Rising gens_table s at.gens h.gens
  pub gens : (book_of s).gens ≡ gens_from s h.gens at.gens
  pub alloc_rise : Rising alloc_table s at.alloc h.alloc
  pub alloc : (book_of s).alloc ≡ alloc_from s h.alloc at.alloc

-- the parts of accepted bytes
accepted_parts : (s : List ℕ) → book_verdict s ≡ Ok tt → Parts s (header_of s) (places_of (header_of s))
unfolding book_verdict parts_verdict places_of book_of parents_of
accepted_parts s accepted =
    let one = both_passed _ _ accepted in
    let two = both_passed _ _ one.1 in
    let a = both_passed _ _ (both_passed _ _ two.1).1 in
    let b = both_passed _ _ a.1 in
    let c = both_passed _ _ b.1 in
    let d = both_passed _ _ c.1 in
    let long = ltb-false _ _ (test_fails _ _ _ two.0) in
    let parents = table_rises words_table s _ _ long a.0 in
    let subvolumes = table_rises words_table s _ _ (omega (arith, parents.inside)) b.0 in
    let gens = table_rises gens_table s _ _ (omega (arith, subvolumes.inside)) c.0 in
    let by : Bool → List (ℕ × ℕ) = λ d. cond d (drawn_from (book_of s).keys) (book_of s).parents in
    record {
      small = ltb-false _ _ (test_fails _ _ _ one.0);
      header = refl;
      keys_fit = keys_fit _ s _ _ d.1;
      keys = refl;
      parents_rise = parents;
      parents = λ e. ap by e;
      drawn = λ e. ap by e;
      subvolumes_rise = subvolumes;
      subvolumes = refl;
      gens_rise = gens;
      gens = refl;
      alloc_rise = table_rises alloc_table s _ _ (omega (arith, gens.inside)) d.0;
      alloc = refl;
    }

pub parts : {s : List ℕ} {h : Header} {at : Places} → Opened s h at → Parts s h at
parts {s} o = rw (o.header, o.places) (accepted_parts s o.accepted)

-- a key has 28 bytes or more, so a book has at most 37,449 of them
room : (s : List ℕ) (n p : ℕ) → p ≤ length s → KeysFit s n p → p + n * 28 ≤ length s
unfolding KeysFit
room s zero p h fit = omega arith
room s (suc n) p h fit = omega (arith, key_end_lem s p, room s n (key_end s p) fit.0 fit.1)

fit_few : (s : List ℕ) (n p : ℕ) → length s ≤ 1048576 → KeysFit s n p → n ≤ 37449
unfolding KeysFit
fit_few s zero p small fit = omega arith
fit_few s (suc n) p small fit = omega (arith, key_end_lem s p, room s n (key_end s p) fit.0 fit.1)

pub few_keys : {s : List ℕ} {h : Header} {at : Places} → Opened s h at → h.keys ≤ 37449
few_keys {s} {h} {at} o = let p = parts o in fit_few s h.keys at.keys p.small p.keys_fit

-- the header and the places of bytes that pass
pub opened : (s : List ℕ) → book_verdict s ≡ Ok tt → Opened s (header_of s) (places_of (header_of s))
opened s e = record { accepted = e; header = refl; places = refl }

pub parse_accepted : (s : List ℕ) → book_verdict s ≡ Ok tt → parse s ≡ Outcome.accepted (book_of s)
unfolding parse outcome_of
parse_accepted s h = rw h

pub parse_refused : (s : List ℕ) {r : Refusal} → book_verdict s ≡ Err r → parse s ≡ Outcome.refused r.number r.place
unfolding parse outcome_of
parse_refused s h = rw h

-- the step of a walk: with a key left, the keys are the one at p and those from its end on, it fits, and those fit
pub record Step (s : List ℕ) (n p : ℕ) : Type 0 where
  pub keys : keys_from s n p ≡ key_of s (key_head s p) ∷ keys_from s (n - 1) (key_end s p)
  pub head : p + 28 ≤ length s
  pub value : key_end s p ≤ length s
  pub rest : KeysFit s (n - 1) (key_end s p)

pub step : (s : List ℕ) (n p : ℕ) → 0 < n → KeysFit s n p → Step s n p
unfolding keys_from KeysFit
step s zero p h fit = absurd (omega arith)
step s (suc n) p h fit =
    let less : suc n - 1 ≡ n = omega arith in
    record { keys = rw less; head = omega (arith, key_end_lem s p, fit.0); value = fit.0; rest = rw less fit.1 }

-- the end of a walk
pub no_keys : (s : List ℕ) (p : ℕ) {n : ℕ} → n ≡ 0 → keys_from s n p ≡ []
unfolding keys_from
no_keys s p h = rw h

-- where a key ends, by its front
pub front_end : (s : List ℕ) (p : ℕ) {f : KeyFront} → f ≡ front_of (key_head s p) → p + 28 + f.len ≡ key_end s p
unfolding key_end key_head
front_end s p e = ap (λ (f : KeyFront). p + 28 + f.len) e

-- the length of a key's value
pub value_length : (s : List ℕ) (h : KeyHead) → h.start + h.len ≤ length s → length (key_of s h).value ≡ h.len
value_length s h fits = simp (length-take, length-drop) (omega arith)

-- the part of the book that is lent as a key's value
pub value_part : (s : List ℕ) (h : KeyHead) → take (h.start + h.len - h.start) (drop h.start s) ≡ (key_of s h).value
value_part s h =
    let len : h.start + h.len - h.start ≡ h.len = omega arith in
    ap (λ (n : ℕ). take n (drop h.start s)) len

-- a word of a key's value, read in the book
pub value_word : (s : List ℕ) (h : KeyHead) (i k : ℕ) → i + k ≤ h.len → le_at (key_of s h).value i k ≡ le_at s (h.start + i) k
value_word s h i k fits = le_part s h.start h.len i k fits
