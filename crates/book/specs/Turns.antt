-- The keys of an accepted book, one after the other, as the iterator over them gives them.
use Rattle.std.specs.Prelude.{ℕ, ◌-◌, ◌<◌, ◌≡◌, Option, MatchOption}
use Rattle.book.specs.declared.open.Key.{Key}
use Rattle.book.specs.declared.open.Keys.{Keys}
use Rattle.book.specs.Book.{Bkey, key_end}
use Rattle.book.specs.Keys.{key_at}

-- what a key holds
abbrev pub held : Key → Bkey
held k = key_at k.book.now k.at

-- a call of `next` gives the key at hand, if one is left, and goes on behind it
abbrev pub GivesKey : Keys → Option Key → Keys → Type 0
GivesKey s r t = MatchOption r (s.left ≡ 0) (λ k. (0 < s.left) × (k.book.now ≡ s.book.now) × (k.at ≡ s.at)
    × (t.book.now ≡ s.book.now) × (t.left ≡ s.left - 1) × (t.at ≡ key_end s.book.now s.at))
