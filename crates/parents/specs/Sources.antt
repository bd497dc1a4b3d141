-- Where the parents of a book are found.
use Rattle.std.specs.Prelude.{ℕ, ◌*◌, ◌≤◌, ◌≡◌, List, length}
use Rattle.pairs.specs.Pairs.{pairs_of}
use Rattle.book.specs.Book.{words_table, words_from, keys_from, book_of}
use Rattle.book.specs.KeyMaps.{drawn_from, parents_of}
use Rattle.book.specs.Walk.{Rising, KeysFit}
use Rattle.maps.specs.Sorted.{AllPairs}
use Rattle.drawn.specs.Classes.{link_pair}
use Rattle.parents.specs.declared.Source.{Source}
use Rattle.parents.specs.declared.Source.TheVariants.{Table, Pairs, Keys}

-- how far a place near an id's own may lie
unfoldable pub reach_of : Source → ℕ
reach_of (Table start count) = count
reach_of (Pairs n) = n
reach_of (Keys start count) = count

-- the parents of the book s are those of its table, which starts at byte `start` and has `count` entries
pub record ByTable (s : List ℕ) (start count : ℕ) : Type 0 where
  pub rises : Rising words_table s start count
  pub table : parents_of (book_of s) ≡ words_from s count start

-- they are drawn from its keys, of all of which the first n pairs of the work words w are, sorted
pub record ByPairs (s w : List ℕ) (n : ℕ) : Type 0 where
  pub room : 2 * n ≤ length w
  pub count : ℕ
  pub start : ℕ
  pub all : AllPairs link_pair s count start (pairs_of w n)
  pub drawn : parents_of (book_of s) ≡ drawn_from (keys_from s count start)

-- they are drawn from its keys, `count` of them from byte `start` on
pub record ByKeys (s : List ℕ) (start count : ℕ) : Type 0 where
  pub small : length s ≤ 1048576
  pub fit : KeysFit s count start
  pub drawn : parents_of (book_of s) ≡ drawn_from (keys_from s count start)

-- the parents of the book s are found there
unfoldable pub Sourced : List ℕ → List ℕ → Source → Type 0
Sourced s w (Table start count) = ByTable s start count
Sourced s w (Pairs n) = ByPairs s w n
Sourced s w (Keys start count) = ByKeys s start count
