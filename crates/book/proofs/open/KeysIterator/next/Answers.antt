use Rattle.std.proofs.Common.{◌≡◌, refl, arith, ℕ}
use Rattle.book.specs.declared.KeyFront.{KeyFront}
use Rattle.book.specs.declared.open.Keys.{Keys}
use Rattle.book.specs.Book.{key_head}
use Rattle.book.specs.Walk.{front_of}
use Rattle.book.specs.Keys.{AtKey}
use Rattle.book.proofs.Walk.{step, Step}
use Rattle.book.proofs.AtKey.{at_key, at_end}
use Rattle.book.proofs.open.KeysIterator.next.Goals as goal

-- the key at hand, where one is left
here : (k : Keys) {f : KeyFront} → (k.left ≡ 0 → ⊥) → f ≡ front_of (key_head k.book.now k.at) → AtKey k.book.now k.at f
here k some e = at_key k.small (omega arith) k.fit e

behind : (k : Keys) → (k.left ≡ 0 → ⊥) → Step k.book.now k.left k.at
behind k some = step k.book.now k.left k.at (omega arith) k.fit

pub key_front-front-requires : goal.key_front-front-requires
key_front-front-requires c =
    let k = c.args.self.now in
    let st = behind k c.if-self-eq0.false in
    (k.small, omega (arith, st.head))

pub overflow_add-self : goal.overflow_add-self
overflow_add-self c = let k = here c.args.self.now c.if-self-eq0.false c.key_front-front.ensures in omega (arith, at_end k, k.inside, k.small)

pub overflow_add-self-2 : goal.overflow_add-self-2
overflow_add-self-2 c = let k = here c.args.self.now c.if-self-eq0.false c.key_front-front.ensures in omega (arith, at_end k, k.inside, k.small)

pub invariant_of-self : goal.invariant_of-self
invariant_of-self c =
    let k = c.args.self.now in
    record { small = k.small; fit = rw (at_end (here k c.if-self-eq0.false c.key_front-front.ensures)) (behind k c.if-self-eq0.false).rest }

pub invariant_of-result : goal.invariant_of-result
invariant_of-result c = record { stands = here c.args.self.now c.if-self-eq0.false c.key_front-front.ensures }

pub returns-clause-steps : goal.returns-clause-steps
returns-clause-steps c =
    (omega (arith, c.if-self-eq0.false), refl, refl, refl, refl, at_end (here c.args.self.now c.if-self-eq0.false c.key_front-front.ensures))
