-- `tables::word_at` meets its contract: at the place of the id stands an entry with it, or the table has none.
use Rattle.std.specs.Prelude.{Some}
use Prim.Native.Nat.{ℕ, ◌+◌, ◌*◌, ◌<◌}
use mathlib.Core.Path.{refl, sym, ap, ◌∙◌}
use lib.ListN.{get_or}
use Rattle.book.specs.Book.{whole_rest, words_table}
use Rattle.book.proofs.Tables.{rest_be}
use Rattle.tables.proofs.Found.{word_first, found_at, found_none}
use borrow.Author.Rules.{rules}
use native.Mathlib.Omega.{arith}
use Rattle.tables.proofs.word_at.Statement.{statement}
use Rattle.tables.proofs.word_at.Tie as tie

bytes : (c : tie.After-shared_slice_known-1) (j : ℕ) → get_or c.args.book.now j 0 < 256
bytes c j = (c.shared_slice_known-1.given j).fits

returns : tie.Need-returns-then-i-count
returns c =
    let a = c.args in
    rw (found_none whole_rest words_table a.book.now a.count a.start a.id a.i c.requires.1 c.requires.0 (λ l e. omega arith))

returns_2 : tie.Need-returns-then-be32-id
returns_2 c =
    let k = c.before.before.before.before in
    let a = k.args in
    let s = a.book.now in
    let here = sym (word_first s (bytes k) a.start a.i c.be32.ensures) ∙ c.if-be32-id.true in
    rw (found_at whole_rest words_table s a.count a.start a.id a.i k.requires.1 k.requires.0 (omega (arith, k.requires.1.inside)) here)
    (ap Some (c.be32-then-be32-id.ensures ∙ sym (rest_be words_table s (bytes k) (a.start + a.i * 8) 4 refl 4 refl)))

returns_3 : tie.Need-returns
returns_3 c =
    let k = c.before.before.before in
    let a = k.args in
    let s = a.book.now in
    let here = word_first s (bytes k) a.start a.i c.be32.ensures in
    rw (found_none whole_rest words_table s a.count a.start a.id a.i k.requires.1 k.requires.0 (λ l e. c.if-be32-id.false (here ∙ e)))

pub word_at_spec : {M : Type 1} → statement M
word_at_spec =
    tie.close
    (tie.spec
    returns
    (λ c. search rules)
    (λ c. search rules)
    (λ c κs. search rules)
    (λ c. search rules)
    (λ c κs. search rules)
    returns_2
    returns_3)
