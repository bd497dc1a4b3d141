-- The last pair of the map with the number, if there is one, stands right before the place where the pairs pass those.
use Rattle.std.proofs.Common.{◌≡◌, ◌∙◌, sym, ap, arith, ℕ, ◌+◌, ◌-◌, ◌*◌, ◌^◌, ◌<◌, ◌≤◌, ◌%◌, Bool, false, get_or}
use Rattle.std.specs.Prelude.{None, Some}
use mathlib.Core.Bool.{true≢false}
use Rattle.pairs.specs.declared.SortedPairs.{SortedPairs}
use Rattle.pairs.specs.Pairs.{pair, pair_at, pairs_of, count_below}
use Rattle.pairs.proofs.Words.{pairs_at, pairs_bound}
use Rattle.maps.specs.Places.{is_for, last_place}
use Rattle.maps.proofs.Pairs.{last_bound, none_bound}
use Rattle.maps.proofs.Last.{place_second}
use Rattle.maps.proofs.place_before.Goals as goal

module _ (ps : SortedPairs) (r which number : ℕ) (few : which < 4)
    (e : r ≡ count_below (pair number ((which + 1) * 2 ^ 32)) (pairs_of ps.words.now ps.count)) where
  inside : r ≤ ps.count
  inside = omega (arith, e, pairs_bound (pair number ((which + 1) * 2 ^ 32)) ps.words.now ps.count)

  -- the pair before that place
  before : 0 < r → {b : Bool} → is_for which number (pair_at ps.words.now (r - 1)) ≡ b → is_for which number (get_or (pairs_of ps.words.now ps.count) (r - 1) 0) ≡ b
  before z h = let i = inside in rw (pairs_at ps.words.now ps.count (r - 1) (omega arith)) h

  absent : (0 < r → is_for which number (pair_at ps.words.now (r - 1)) ≡ false) → last_place which number (pairs_of ps.words.now ps.count) ≡ None
  absent h = none_bound which number (omega arith) (pairs_of ps.words.now ps.count) r ps.sorted e (λ z t. true≢false (sym t ∙ before z (h z)))

pub returns-then-r-eq0 : goal.returns-then-r-eq0
returns-then-r-eq0 c = let a = c.args in sym (absent a.pairs a.r a.which a.number c.requires.0 c.requires.1 (λ z. absurd (omega arith)))

pub is_for-requires : goal.is_for-requires
is_for-requires c = let a = c.args in omega (arith, inside a.pairs a.r a.which a.number c.requires.0 c.requires.1, a.pairs.inside)

pub second-requires : goal.second-requires
second-requires c = let a = c.args in omega (arith, inside a.pairs a.r a.which a.number c.requires.0 c.requires.1)

pub returns-then-is_for : goal.returns-then-is_for
returns-then-is_for c =
    let a = c.args in
    let i = inside a.pairs a.r a.which a.number c.requires.0 c.requires.1 in
    sym
    (last_bound a.which a.number (omega arith) (pairs_of a.pairs.words.now a.pairs.count) a.r a.pairs.sorted c.requires.1 (omega arith)
    (before a.pairs a.r a.which a.number c.requires.0 c.requires.1 (omega arith) (sym c.is_for.ensures ∙ c.if-is_for.true))
    ∙ ap Some (place_second a.pairs.words.now a.pairs.count (a.r - 1) (omega arith) ∙ ap (λ (y : ℕ). y % 2 ^ 32) (sym c.second.ensures)))

pub returns-else-is_for : goal.returns-else-is_for
returns-else-is_for c = let a = c.args in sym (absent a.pairs a.r a.which a.number c.requires.0 c.requires.1 (λ z. sym c.is_for.ensures ∙ c.if-is_for.false))
