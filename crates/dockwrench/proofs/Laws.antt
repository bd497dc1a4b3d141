-- What the answers of the calls below say.
use Rattle.std.specs.Prelude.{Some, Result, Ok, Err}
use Prim.Native.Nat.{ℕ, ◌*◌, ◌^◌, ◌≤◌, ◌<◌}
use mathlib.Core.Path.{◌≡◌, refl, sym, ap, subst, ◌∙◌}
use mathlib.Core.Bool.{Bool, true, false, cond}
use mathlib.Core.List.{List}
use native.Mathlib.Omega.{arith}
use lib.ListN.{length}
use lib.Dec.{ltb}
use borrow.Author.Tests.{lt-ltb, le-ltb}
use Rattle.book.specs.declared.Header.{Header}
use Rattle.book.specs.declared.Places.{Places}
use Rattle.book.specs.Book.{book_of}
use Rattle.book.specs.KeyMaps.{parents_of}
use Rattle.book.specs.Walk.{Opened}
use Rattle.book.proofs.Walk.{parts, parse_accepted}
use Rattle.rules.specs.Rules.{findings_of}
use Rattle.book.specs.declared.refusal.Refusal.{Refusal}
use Rattle.book.specs.Refusals.{Outcome, parse, refusal}
use Rattle.book.proofs.Bounds.{refused_bounds}
use Rattle.parents.specs.declared.Source.{Source}
use Rattle.parents.specs.declared.Source.TheVariants.{Table, Keys}
use Rattle.parents.specs.Sources.{Sourced}
use Rattle.dockwrench.specs.Steps.{asked_source}
use Rattle.parents.specs.declared.Root.{Root}
use Rattle.parents.specs.Roots.{root_of}
use Rattle.parents.specs.Chains.{root_answer}
use Rattle.parents.proofs.Laws.{root_at, root_few}
use Rattle.dockwrench.specs.declared.Checked.{Checked}
use Rattle.dockwrench.specs.declared.Checked.TheVariants as checked
use Rattle.dockwrench.specs.Answers.{Answer, work_short, count_in, check_book, check_of, checked_answer, ancestor_of, availability_of, packed, unpacked}

-- where a question finds the parents of an accepted book
pub asked_sourced : (s w : List ℕ) {h : Header} {at : Places} {src : Source} → Opened s h at → src ≡ asked_source h at → Sourced s w src
unfolding asked_source Sourced
asked_sourced s w {h} {at} o e = subst (Sourced s w) (sym e) (by h.drawn refl)
  where
    by : (d : Bool) → h.drawn ≡ d → Sourced s w (cond d (Keys at.keys h.keys) (Table at.parents h.parents))
    by true d = record { small = (parts o).small; fit = (parts o).keys_fit; drawn = (parts o).drawn d }
    by false d = record { rises = (parts o).parents_rise; table = (parts o).parents d }

-- an accepted book, by the bytes that were scanned
pub accepted_as : {s t : List ℕ} {h : Header} {at : Places} → Opened t h at → t ≡ s → parse s ≡ Outcome.accepted (book_of t)
accepted_as {t = t} o e = rw (← e) (parse_accepted t o.accepted)

-- a refusal, by its number and place
refused_as : {A : Type 0} {m p : ℕ} {r : Refusal} → ◌≡◌ {A = Result A Refusal} (Err (refusal m p)) (Err r) → Outcome.refused m p ≡ Outcome.refused r.number r.place
refused_as {m = m} {p = p} {r = r} e = let same : refusal m p ≡ r = cc in ap (λ (q : Refusal). Outcome.refused q.number q.place) same

-- the answers of the ancestor question
pub ancestor_links : (o : Outcome) (id : ℕ) {r : Root} → ancestor_of o id ≡ Ok (Some r) → r.links ≤ 1024
unfolding ancestor_of
ancestor_links (Outcome.accepted b) id {r} e =
    let found : root_answer (root_of (parents_of b) id) ≡ Some r = cc in
    root_few (parents_of b) id (root_at _ found)
ancestor_links (Outcome.refused m p) id e = let z : ◌≡◌ {A = ℕ} 0 1 = cc in absurd (omega arith)

ancestor_refused : (o : Outcome) (id : ℕ) {r : Refusal} → ancestor_of o id ≡ Err r → o ≡ Outcome.refused r.number r.place
unfolding ancestor_of
ancestor_refused (Outcome.accepted b) id e = let z : ◌≡◌ {A = ℕ} 0 1 = cc in absurd (omega arith)
ancestor_refused (Outcome.refused m p) id e = refused_as e

pub ancestor_bounds : (s : List ℕ) (id : ℕ) {r : Refusal} → ancestor_of (parse s) id ≡ Err r → (r.number ≤ 13) × (r.place ≤ 1048576)
ancestor_bounds s id e = refused_bounds s (ancestor_refused (parse s) id e)

-- the answers of the availability question
available_refused : (o : Outcome) (id : ℕ) {r : Refusal} → availability_of o id ≡ Err r → o ≡ Outcome.refused r.number r.place
unfolding availability_of
available_refused (Outcome.accepted b) id e = let z : ◌≡◌ {A = ℕ} 0 1 = cc in absurd (omega arith)
available_refused (Outcome.refused m p) id e = refused_as e

pub available_bounds : (s : List ℕ) (id : ℕ) {r : Refusal} → availability_of (parse s) id ≡ Err r → (r.number ≤ 13) × (r.place ≤ 1048576)
available_bounds s id e = refused_bounds s (available_refused (parse s) id e)

-- the answers of the main call
pub short_is : {s : List ℕ} {h : Header} {at : Places} {words : ℕ} → Opened s h at → words < 2 * h.keys → work_short (book_of s) words ≡ true
unfolding work_short
short_is {h = h} {words = words} o e = rw (parts o).header (lt-ltb words (2 * h.keys) e)

pub short_not : {s : List ℕ} {h : Header} {at : Places} {words : ℕ} → Opened s h at → 2 * h.keys ≤ words → work_short (book_of s) words ≡ false
unfolding work_short
short_not {h = h} {words = words} o e = rw (parts o).header (le-ltb words (2 * h.keys) e)

pub room_short : (room count : ℕ) → room < 17 * count → checked.NoRoom count ≡ count_in room count
unfolding count_in
room_short room count h = rw (lt-ltb room (17 * count) h)

pub room_enough : (room count : ℕ) → 17 * count ≤ room → checked.Found count ≡ count_in room count
unfolding count_in
room_enough room count h = rw (le-ltb room (17 * count) h)

pub count_few : (room count : ℕ) {a : Checked} → a ≡ count_in room count → count < 2 ^ 32 → (checked_answer (Ok a)).count < 2 ^ 32
unfolding count_in checked_answer
count_few room count e h = rw e (go (ltb room (17 * count)))
  where
    go : (b : Bool) → (checked_answer (Ok (cond b (checked.NoRoom count) (checked.Found count)))).count < 2 ^ 32
    go true = h
    go false = h

pub found_few : {a : Result Checked Refusal} {n : ℕ} → a ≡ Ok (checked.Found n) → (checked_answer a).count < 2 ^ 32 → n < 2 ^ 32
unfolding checked_answer
found_few e h = rw e at h

pub room_few : {a : Result Checked Refusal} {n : ℕ} → a ≡ Ok (checked.NoRoom n) → (checked_answer a).count < 2 ^ 32 → n < 2 ^ 32
unfolding checked_answer
room_few e h = rw e at h

nine : (b : Bool) (a : Checked) {r : Refusal} → cond b (Err (refusal 9 0)) (Ok a) ≡ Err r → (r.number ≤ 13) × (r.place ≤ 1048576)
nine true a {r} e =
    let same : refusal 9 0 ≡ r = cc in
    (omega (arith, ap (λ (q : Refusal). q.number) same), omega (arith, ap (λ (q : Refusal). q.place) same))
nine false a e = let z : ◌≡◌ {A = ℕ} 0 1 = cc in absurd (omega arith)

bounds_by : (s : List ℕ) (room words : ℕ) (o : Outcome) → parse s ≡ o → {r : Refusal} → check_of o room words ≡ Err r → (r.number ≤ 13) × (r.place ≤ 1048576)
unfolding check_of check_book
bounds_by s room words (Outcome.accepted b) is e = nine (work_short b words) (count_in room (length (findings_of b))) e
bounds_by s room words (Outcome.refused n q) is e = refused_bounds s (is ∙ refused_as e)

pub check_bounds : (s : List ℕ) (room words : ℕ) {r : Refusal} → check_of (parse s) room words ≡ Err r → (r.number ≤ 13) × (r.place ≤ 1048576)
check_bounds s room words e = bounds_by s room words (parse s) refl e

same : {n p c n' p' c' : ℕ} → n ≡ n' → p ≡ p' → c ≡ c'
    → ◌≡◌ {A = Answer} (record { number = n; place = p; count = c }) (record { number = n'; place = p'; count = c' })
same a b c = rw (a, b, c)

-- the numbers of an answer, each below its width, come back from the one number
pub apart : {x n p c : ℕ} → x ≡ packed (record { number = n; place = p; count = c }) → n < 2 ^ 8 → p < 2 ^ 24 → c < 2 ^ 32
    → unpacked x ≡ record { number = n; place = p; count = c }
unfolding packed unpacked
apart e hn hp hc = same (omega arith) (omega arith) (omega arith)
