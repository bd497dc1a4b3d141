-- An entry that has the id is its place, since the first words rise: what the table has for it is the word beside it.
use Rattle.std.specs.Prelude.{Some}
use Rattle.std.proofs.Common.{ℕ, ◌+◌, ◌*◌, ◌<◌, refl, sym, ap, ◌∙◌}
use native.Mathlib.Omega.{arith}
use Rattle.bits.specs.Bits.{be_at}
use Rattle.book.specs.Book.{whole_rest, words_table}
use Rattle.book.proofs.Tables.{rest_be}
use Rattle.tables.proofs.Found.{word_first, place_of, found_at}
use Rattle.tables.proofs.find_word.Goals as goal

pub returns-then-be32-id : goal.returns-then-be32-id
returns-then-be32-id c =
    let a = c.args in
    let s = a.book.now in
    let byte = λ (j : ℕ). (c.type_inv.book j).fits in
    let up = c.requires.0 in
    let inside : a.near < a.count = omega (arith, c.if-near-count.true) in
    let first = c.be32.ensures ∙ ap (λ (i : ℕ). be_at s i 4) (omega arith) in
    let here = sym (word_first s byte a.start a.near first) ∙ c.if-be32-id.true in
    let place = place_of words_table s a.start a.count a.id a.near up inside here in
    let second = c.be32-then-be32-id.ensures ∙ ap (λ (i : ℕ). be_at s i 4) (omega arith) in
    let word = second ∙ sym (rest_be words_table s byte (a.start + a.near * 8) 4 refl 4 refl) in
    (ap Some word ∙ sym (found_at whole_rest words_table s a.count a.start a.id a.near place up inside here), c.requires.1)
