-- Laws of the numbers that bits make.
use Prim.Native.Nat.{ℕ, zero, suc, ◌+◌, ◌-◌, ◌*◌, ◌/◌, ◌%◌, ◌^◌, ◌≤◌, ◌<◌, min}
use mathlib.Core.Path.{◌≡◌, refl, sym, ◌∙◌, ap}
use mathlib.Core.List.{List}
use native.Mathlib.Nat.{mod-lt, mod-one, add-zero, add-suc, add_assoc, pow-suc, mod-eq_of_lt, div-one, lt_of_lt_of_le}
use native.Mathlib.Omega.{arith}
use native.Mathlib.Numerals.{add-one}
use lib.ListN.{get_or, take, drop}
use lib.Seq.{get_or-take, get_or-drop}
use lib.Dec.{lit<}
use lib.Pow.{mod-pow-add, shr-shr, shl_exact, pow-add, pow_mono}
use Rattle.bits.specs.Bits.{bit, bits_at, be_at, le_at}

bit_lt : (s : List ℕ) (k : ℕ) → bit s k < 2
unfolding bit
bit_lt s k = mod-lt _ (lit< tt)

-- n bits make a number below 2 ^ n
pub bits_lt : (s : List ℕ) (p n : ℕ) → bits_at s p n < 2 ^ n
unfolding bits_at
bits_lt s p zero = lit< tt
bits_lt s p (suc n) = omega (arith, bit_lt s (p + n), bits_lt s p n, pow-suc 2 n)

-- so at most 64 bits fit a word
pub bits_fit : (s : List ℕ) (p n : ℕ) → n ≤ 64 → bits_at s p n < 2 ^ 64
bits_fit s p n h = lt_of_lt_of_le (bits_lt s p n) (pow_mono {j = 64} h)

-- no bits make 0
pub no_bits : (s : List ℕ) (p : ℕ) {n : ℕ} → n ≡ 0 → 0 ≡ bits_at s p n
unfolding bits_at
no_bits s p h = rw h

-- a field of a + b bits is one of a bits and one of b bits after it
pub split : (s : List ℕ) (p a b : ℕ) → bits_at s p (a + b) ≡ bits_at s p a * 2 ^ b + bits_at s (p + a) b
unfolding bits_at
split s p a zero = rw add-zero (omega arith)
split s p a (suc b) = rw (add-suc, add_assoc, pow-suc) (omega (arith, split s p a b))

-- a field within one byte
pub within : (s : List ℕ) (p n : ℕ) → p % 8 + n ≤ 8 → bits_at s p n ≡ get_or s (p / 8) 0 / 2 ^ (8 - p % 8 - n) % 2 ^ n
unfolding bits_at bit
within s p zero h = sym (mod-one _)
within s p (suc n) h =
    let e : ℕ = 8 - p % 8 - suc n in
    let width : 8 - p % 8 - n ≡ e + 1 = omega arith in
    let byte : (p + n) / 8 ≡ p / 8 = omega arith in
    let low : 7 - (p + n) % 8 ≡ e = omega arith in
    let x : ℕ = get_or s (p / 8) 0 in
    cc (within s p n (omega arith), mod-pow-add (x / 2 ^ e) n 1, shr-shr x e 1, add-one n)

-- at a byte boundary 8 bits are the byte
byte_at : (s : List ℕ) (i : ℕ) → get_or s i 0 < 256 → bits_at s (8 * i) 8 ≡ get_or s i 0
byte_at s i h =
    let index : 8 * i / 8 ≡ i = omega arith in
    let low : 8 - 8 * i % 8 - 8 ≡ 0 = omega arith in
    within s (8 * i) 8 (omega arith) ∙ (rw (index, low, div-one, mod-eq_of_lt))

-- at a byte boundary 8 * k bits are the big-endian number of k bytes
pub bits_be : (s : List ℕ) → ((j : ℕ) → get_or s j 0 < 256) → (i k : ℕ) → bits_at s (8 * i) (8 * k) ≡ be_at s i k
unfolding bits_at be_at
bits_be s h i zero = refl
bits_be s h i (suc k) =
    let more : 8 * suc k ≡ 8 * k + 8 = omega arith in
    let next : 8 * i + 8 * k ≡ 8 * (i + k) = omega arith in
    rw (more, split s (8 * i) (8 * k) 8, next, bits_be s h i k, byte_at s (i + k) (h (i + k)))

-- a number of one byte
pub be_one : (s : List ℕ) (i : ℕ) → be_at s i 1 ≡ get_or s i 0
unfolding be_at
be_one s i = rw add-zero (omega arith)

-- a step of a field that is read byte by byte: `done` bits are read, and the next n stand in one byte
pub more_bits : (s : List ℕ) (p done n : ℕ) → (p + done) % 8 + n ≤ 8 → done + n ≤ 64 →
    (bits_at s p done * 2 ^ n) % 2 ^ 64 + get_or s ((p + done) / 8) 0 / 2 ^ (8 - (p + done) % 8 - n) % 2 ^ n ≡ bits_at s p (done + n)
more_bits s p done n h k =
    rw (split s p done n, within s (p + done) n h, shl_exact done n 64 (bits_lt s p done) k)

-- a field read from its end: `size` bits of it stand in its last byte
pub last_byte : (s : List ℕ) (p n : ℕ) {size : ℕ} → 0 < n → n ≤ 64 → size ≡ min ((p + n - 1) % 8 + 1) n →
    (bits_at s p (n - size) * 2 ^ size) % 2 ^ 64 + get_or s ((p + n - 1) / 8) 0 / 2 ^ (7 - (p + n - 1) % 8) % 2 ^ size ≡ bits_at s p n
last_byte s p n {size} some few e =
    let whole : n - size + size ≡ n = omega arith in
    let byte : (p + (n - size)) / 8 ≡ (p + n - 1) / 8 = omega arith in
    let shift : 8 - (p + (n - size)) % 8 - size ≡ 7 - (p + n - 1) % 8 = omega arith in
    cc (more_bits s p (n - size) size (omega arith) (omega arith))

-- a field that ends in the byte after its first
pub across : (s : List ℕ) (p n : ℕ) → 8 < p % 8 + n → p % 8 + n ≤ 16 → let upper = 8 - p % 8 in let lower = n - upper in
    (get_or s (p / 8) 0 / 2 ^ 0 % 2 ^ upper * 2 ^ lower) % 2 ^ 64 + get_or s (p / 8 + 1) 0 / 2 ^ (8 - lower) % 2 ^ lower ≡ bits_at s p n
across s p n h k =
    let upper : ℕ = 8 - p % 8 in
    let lower : ℕ = n - upper in
    let whole : upper + lower ≡ n = omega arith in
    let next : (p + upper) / 8 ≡ p / 8 + 1 = omega arith in
    let shift : 8 - (p + upper) % 8 - lower ≡ 8 - lower = omega arith in
    let none : 8 - p % 8 - upper ≡ 0 = omega arith in
    cc (more_bits s p upper lower (omega arith) (omega arith), within s p upper (omega arith))

-- a big-endian number of a + b bytes is one of a bytes and, below it, one of b bytes
pub be_split : (s : List ℕ) (i a b : ℕ) → be_at s i (a + b) ≡ be_at s i a * 256 ^ b + be_at s (i + a) b
unfolding be_at
be_split s i a zero = rw add-zero (omega arith)
be_split s i a (suc b) = rw (add-suc, add_assoc, pow-suc) (omega (arith, be_split s i a b))

-- a little-endian number of a + b bytes is one of a bytes and, above it, one of b bytes
pub le_split : (s : List ℕ) (i a b : ℕ) → le_at s i (a + b) ≡ le_at s i a + 256 ^ a * le_at s (i + a) b
unfolding le_at
le_split s i a zero = rw add-zero (omega arith)
le_split s i a (suc b) = rw (add-suc, add_assoc, pow-add 256 a b) (omega (arith, le_split s i a b))

-- what a cursor took at p, where p is q: so the steps of a cursor are chained, each from the place that the one before gives
pub taken : (s : List ℕ) (n : ℕ) {p q v next : ℕ} → (v ≡ bits_at s p n) × (next ≡ p + n) × (v < 2 ^ n) → p ≡ q → (v ≡ bits_at s q n) × (next ≡ q + n)
taken s n e h = (e.0 ∙ ap (λ x. bits_at s x n) h, e.1 ∙ ap (λ x. x + n) h)

-- the words of a part of the bytes are words of the whole
pub le_part : (s : List ℕ) (p n i k : ℕ) → i + k ≤ n → le_at (take n (drop p s)) i k ≡ le_at s (p + i) k
unfolding le_at
le_part s p n i zero h = refl
le_part s p n i (suc k) h =
    let inside : i + k < n = omega arith in
    rw (le_part s p n i k (omega arith), get_or-take n (drop p s) (i + k) 0 inside, get_or-drop, add_assoc)
