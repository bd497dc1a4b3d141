-- At the place of the bucket stands an entry with it, or the table has none.
use Rattle.std.proofs.Common.{◌<◌, ◌∙◌, sym, arith}
use Rattle.book.proofs.Walk.{parts}
use Rattle.gens.proofs.Gens.{gen_found, gen_none, place_past, place_same}
use Rattle.gens.proofs.next_gen.Goals as goal

pub returns-then-at-book-clause-generation : goal.returns-then-at-book-clause-generation
returns-then-at-book-clause-generation c = gen_none c.args.book.now c.requires (λ l e. omega (arith, l, c.if-at-book.true))

pub returns-then-at-book-clause-next : goal.returns-then-at-book-clause-next
returns-then-at-book-clause-next c =
    place_same (parts c.args.book.now.opened).gens_rise c.args.bucket c.args.at c.requires (λ l e. omega (arith, l, c.if-at-book.true))

pub overflow_add-p : goal.overflow_add-p
overflow_add-p c =
    let p = parts c.args.book.now.opened in
    record { fits = omega (arith, p.small, p.gens_rise.inside, c.requires.inside) }

pub bucket_at-requires : goal.bucket_at-requires
bucket_at-requires c =
    let p = parts c.args.book.now.opened in
    (p.small, omega (arith, p.gens_rise.inside, c.requires.inside, c.if-at-book.false))

pub entry_at-entry-requires : goal.entry_at-entry-requires
entry_at-entry-requires c =
    let p = parts c.args.book.now.opened in
    (p.small, omega (arith, p.gens_rise.inside, c.requires.inside, c.if-at-book.false))

pub returns-then-bucket_at-bucket-clause-generation : goal.returns-then-bucket_at-bucket-clause-generation
returns-then-bucket_at-bucket-clause-generation c =
    let inside : c.args.at < c.args.book.now.header.gens = omega (arith, c.requires.inside, c.if-at-book.false) in
    gen_found c.args.book.now c.requires inside (sym c.bucket_at.ensures ∙ c.if-bucket_at-bucket.true) c.entry_at-entry.ensures.1

pub returns-then-bucket_at-bucket-clause-next : goal.returns-then-bucket_at-bucket-clause-next
returns-then-bucket_at-bucket-clause-next c =
    let inside : c.args.at < c.args.book.now.header.gens = omega (arith, c.requires.inside, c.if-at-book.false) in
    place_past (parts c.args.book.now.opened).gens_rise c.args.bucket c.args.at c.requires inside (sym c.bucket_at.ensures ∙ c.if-bucket_at-bucket.true)

pub returns-clause-generation : goal.returns-clause-generation
returns-clause-generation c = gen_none c.args.book.now c.requires (λ l e. c.if-bucket_at-bucket.false (c.bucket_at.ensures ∙ e))

pub returns-clause-next : goal.returns-clause-next
returns-clause-next c =
    place_same (parts c.args.book.now.opened).gens_rise c.args.bucket c.args.at c.requires (λ l e. c.if-bucket_at-bucket.false (c.bucket_at.ensures ∙ e))
