-- What a pass over the keys reads of each: the link of a snapshot, whether the snapshots rise, and what a link says of a walk up the parents.
use Rattle.std.specs.Prelude.{ℕ, zero, suc, ◌+◌, ◌≤◌, ◌<◌, ◌≡◌, Bool, true, false, cond, List, ltb, None, Option, Some}
use Rattle.book.specs.Book.{Bkey, key_end}
use Rattle.book.specs.Words.{holds, parent_word, id_of}
use Rattle.walk.specs.Keys.{key_at}
use Rattle.climb.specs.declared.Link.{Link}
use Rattle.climb.specs.declared.Step.{Step}
use Rattle.climb.specs.declared.Step.TheVariants.{On, End, Lost}

-- a snapshot's id and its parent
abbrev pub link : ℕ → ℕ → Option Link
link id parent = Some (record { id = id; parent = parent })

-- the link that a key is
unfoldable pub link_of : Bkey → Option Link
link_of k = cond (holds 9 22 8 k) (link (id_of k) (parent_word k)) None

-- the least id of the snapshot after a key, where no id may be below `least`
unfoldable pub least_after : ℕ → Option Link → Option ℕ
least_after least None = Some least
least_after least (Some l) = cond (ltb l.id least) None (Some (l.id + 1))

-- whether the keys after one rise, if that one may stand there
unfoldable pub rises_via : (ℕ → Bool) → Option ℕ → Bool
rises_via more None = false
rises_via more (Some least) = more least

-- the ids of the snapshots among the n keys from byte p on rise, and none is below `least`
unfoldable pub rises_from : List ℕ → ℕ → ℕ → ℕ → Bool
rises_from s zero p least = true
rises_from s (suc n) p least = rises_via (λ l. rises_from s n (key_end s p) l) (least_after least (link_of (key_at s p)))

-- what a link says of a walk that `links` links have led to `at`, among keys that rise
pub data Says (at links : ℕ) (of : Option Link) (step : Step) : Type 0 where
  other : of ≡ None → step ≡ On at links → Says at links of step
  lower : {id parent : ℕ} → of ≡ link id parent → id < at → step ≡ On at links → Says at links of step
  past : {id parent : ℕ} → of ≡ link id parent → at < id → step ≡ End None → Says at links of step
  top : {id parent : ℕ} → of ≡ link id parent → id ≡ at → parent ≡ 0 → step ≡ End (Some (record { root = at; links = links })) → Says at links of step
  full : {id parent : ℕ} → of ≡ link id parent → id ≡ at → (parent ≡ 0 → ⊥) → links ≡ 1024 → step ≡ End None → Says at links of step
  up : {id parent : ℕ} → of ≡ link id parent → id ≡ at → at < parent → links < 1024 → step ≡ On parent (links + 1) → Says at links of step
  lost : {id parent : ℕ} → of ≡ link id parent → id ≡ at → parent ≤ at → step ≡ Lost → Says at links of step
