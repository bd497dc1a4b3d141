-- A loop over the keys of a book that puts pairs: its invariant, and the laws by which it begins, turns and ends.
use Rattle.std.proofs.Common.{◌≡◌, ℕ, ◌+◌, ◌-◌, ◌<◌, List, [], ◌∷◌, ◌++◌, refl, sym, ap, ◌∙◌, append_assoc, append-nil, arith}
use Rattle.std.specs.Prelude.{Option, Some}
use Rattle.pairs.specs.Pairs.{pairs_of}
use Rattle.book.specs.declared.open.Book.{Book}
use Rattle.book.specs.declared.open.Key.{Key}
use Rattle.book.specs.declared.open.Keys.{Keys}
use Rattle.book.specs.Book.{Bkey, key_end}
use Rattle.book.specs.Turns.{held, GivesKey}
use Rattle.walk.specs.Keys.{gather}
use Rattle.walk.proofs.Gather.{gather_step}

-- what the keys give that are left
abbrev pub gather_left : (ℕ → Bkey → List ℕ) → Keys → List ℕ
gather_left of it = gather of it.book.now it.left it.at

-- of the pairs `all` those before the keys that are left are the first n of the words w
pub record Put (of : ℕ → Bkey → List ℕ) (all : List ℕ) (it : Keys) (w : List ℕ) (n : ℕ) : Type 0 where
  pub whole : all ≡ pairs_of w n ++ gather_left of it

pub put_first : (of : ℕ → Bkey → List ℕ) (it : Keys) (w : List ℕ) {all : List ℕ} → all ≡ gather_left of it → Put of all it w 0
unfolding pairs_of
put_first of it w e = record { whole = e }

pub begin_gather : (of : ℕ → Bkey → List ℕ) (b : Book) (it : Keys) → it.book.now ≡ b.bytes.now → (it.at ≡ b.places.keys) × (it.left ≡ b.header.keys)
    → gather of b.bytes.now b.header.keys b.places.keys ≡ gather_left of it
begin_gather of b it e f = rw (e, f.0, f.1)

pub put_key : (of : ℕ → Bkey → List ℕ) (it it' : Keys) (k : Key) {all w w' : List ℕ} {n m : ℕ} → GivesKey it (Some k) it'
    → Put of all it w n → pairs_of w' m ≡ pairs_of w n ++ of k.at (held k) → Put of all it' w' m
put_key of it it' k {w = w} {n = n} g p e =
    let step : gather_left of it ≡ of k.at (held k) ++ gather_left of it' =
    rw (g.1, g.2, g.3, g.4, g.5) (gather_step of it.book.now it.left it.at g.0) in
    record {
      whole = rw e (p.whole ∙ ap (λ (l : List ℕ). pairs_of w n ++ l) step ∙ sym (append_assoc (pairs_of w n) (of k.at (held k)) (gather_left of it')));
    }

pub put_last : {of : ℕ → Bkey → List ℕ} {all w : List ℕ} {it : Keys} {n : ℕ} → Put of all it w n → it.left ≡ 0 → pairs_of w n ≡ all
unfolding gather
put_last {w = w} {n = n} p e = sym (p.whole ∙ rw e (append-nil (pairs_of w n)))
