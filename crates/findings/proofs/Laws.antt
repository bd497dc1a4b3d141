-- The laws of the findings buffer: what `put` does, and how one list of findings is put after another.
use Rattle.std.proofs.Common.{◌≡◌, ℕ, suc, ◌+◌, ◌-◌, ◌*◌, ◌/◌, ◌^◌, ◌<◌, ◌≤◌, Bool, true, false, List, [], ◌∷◌, ◌++◌, length, get_or, take, drop, set, sym, refl, ap, ◌∙◌, ap₂, append_assoc, append-nil, lt_of_not-le, arith, lit<, length-append, length-drop, take-append-drop, drop_of_length-le, length-take, take_all, le-leb}
use native.Mathlib.Decide.{dec_le}
use lib.Seq.{sets, sets-eq, take-length, drop-length, take-append-add, drop-append-add}
use borrow.Author.Tests.{lt-leb}
use Rattle.findings.specs.Findings.{Finding, finding, encode, bytes_of, put, start, put_from, count_all, Counted, Encodable, Sink, sink, Found, Added, only}
use Rattle.findings.proofs.Counts.{count_all_append, length_count_all, counted}

-- ---- put, one finding at a time

-- a finding has 17 bytes
length_encode : (f : Finding) → length (encode f) ≡ 17
unfolding encode bytes_of
length_encode f = refl

-- a finding that fits, and one that does not
pub put_fits : (o : List ℕ) (f : Finding) (fs : List Finding) → 17 ≤ length o → put o (f ∷ fs) ≡ encode f ++ put (drop 17 o) fs
unfolding put
put_fits o f fs h = rw (le-leb 17 (length o) h)

pub put_full : (o : List ℕ) (fs : List Finding) → length o < 17 → put o fs ≡ o
unfolding put
put_full o [] h = refl
put_full o (f ∷ fs) h = rw (lt-leb 17 (length o) h)

-- one order or the other
pub split : {X : Type 0} (a b : ℕ) → (a ≤ b → X) → (b < a → X) → X
split a b f g = elim (dec_le a b) [ yes h ↦ f h | no h ↦ g (lt_of_not-le h) ]

-- the buffer keeps its length
length_put : (fs : List Finding) (o : List ℕ) → length (put o fs) ≡ length o
unfolding put
length_put [] o = refl
length_put (f ∷ fs) o =
    split 17 (length o)
    (λ h. ap length (put_fits o f fs h) ∙ omega (arith, length-append (encode f) (put (drop 17 o) fs), length_encode f, length_put fs (drop 17 o), length-drop 17 o))
    (λ h. ap length (put_full o (f ∷ fs) h))

-- one finding, stored as `put_first` stores it
pub put_one : (o : List ℕ) (k s b : ℕ) → k < 256 → 17 ≤ length o
    → sets (sets (set o 0 k) 1 (bytes_of 8 s)) 9 (bytes_of 8 b) ≡ put o (finding k s b ∷ [])
unfolding encode bytes_of put
put_one o k s b small h =
    ap (λ (x : ℕ). sets (sets (set o 0 x) 1 (bytes_of 8 s)) 9 (bytes_of 8 b)) (omega arith)
    ∙ sets-eq (encode (finding k s b)) o 0 h ∙ sym (put_fits o (finding k s b) [] h)

-- ---- put, list after list

-- the buffer from the place on where finding number n begins
at_start : (o : List ℕ) (n : ℕ) (gs : List Finding) (k : ℕ) → k ≡ start (length o) n → take k o ++ put (drop k o) gs ≡ put_from o n gs
unfolding put_from
at_start o n gs k e = ap (λ (k : ℕ). take k o ++ put (drop k o) gs) e

-- after the bytes of one finding; and past the end
past_one : (b p : List ℕ) (n : ℕ) (gs : List Finding) → length b ≡ 17 → put_from (b ++ p) (suc n) gs ≡ b ++ put_from p n gs
unfolding put_from
past_one b p n gs h =
    sym (at_start (b ++ p) (suc n) gs (length b + start (length p) n) (omega (arith, length-append b p)))
    ∙ rw (take-append-add, drop-append-add) (append_assoc b (take (start (length p) n) p) (put (drop (start (length p) n) p) gs))

past_end : (o : List ℕ) (n : ℕ) (gs : List Finding) → length o ≤ 17 * n → put_from o n gs ≡ o
past_end o n gs h =
    sym (at_start o n gs (length o) (omega arith))
    ∙ rw (take-length, drop-length, put_full [] gs (lit< tt)) (append-nil o)

-- the findings gs after the findings fs
put_append : (fs gs : List Finding) (o : List ℕ) → put_from (put o fs) (length fs) gs ≡ put o (fs ++ gs)
unfolding put
put_append [] gs o = sym (at_start o 0 gs 0 (omega arith))
put_append (f ∷ fs) gs o =
    split 17 (length o)
    (λ h. rw (put_fits o f fs h, put_fits o f (fs ++ gs) h) (past_one (encode f) (put (drop 17 o) fs) (length fs) gs (length_encode f) ∙ ap (λ (t : List ℕ). encode f ++ t) (put_append fs gs (drop 17 o))))
    (λ h. rw (put_full o (f ∷ fs) h, put_full o (f ∷ (fs ++ gs)) h) (past_end o (suc (length fs)) gs (omega arith)))

-- the same after n findings
put_from_append : (o : List ℕ) (n : ℕ) (fs gs : List Finding) → put_from (put_from o n fs) (n + length fs) gs ≡ put_from o n (fs ++ gs)
unfolding put_from
put_from_append o n fs gs =
    let a = start (length o) n in
    let t = take a o in
    let p = put (drop a o) fs in
    let k = start (length p) (length fs) in
    sym (at_start (t ++ p) (n + length fs) gs (length t + k)
    (omega (arith, length-append t p, length-take a o, length-drop a o, length_put fs (drop a o))))
    ∙ rw (take-append-add, drop-append-add) (append_assoc t (take k p) (put (drop k p) gs))
    ∙ ap (λ (l : List ℕ). t ++ l) (put_append fs gs (drop a o))

-- ---- findings that can be read back

pub encodable_append : (fs gs : List Finding) → Encodable fs → Encodable gs → Encodable (fs ++ gs)
unfolding Encodable
encodable_append [] gs h e = e
encodable_append (f ∷ fs) gs (k, s, o, h) e = (k, s, o, encodable_append fs gs h e)

-- one finding
pub encodable_one : {k s o : ℕ} → k < 2 ^ 8 → s < 2 ^ 64 → o < 2 ^ 64 → Encodable (finding k s o ∷ [])
unfolding Encodable
encodable_one k s o = (k, s, o, tt)

-- ---- what a rule's proof cites

-- before the first finding
pub none : (o : Sink) → Found o [] 0 o
unfolding put count_all Encodable
none o = record { count = refl; buffer = refl; counts = refl; encodable = tt }

-- the first findings
pub begin : {o o₁ : Sink} {fs : List Finding} {r : ℕ} → Added o 0 fs r o₁ → Found o fs r o₁
unfolding put_from
begin {o} {fs = fs} a = record { count = omega (arith, a.count); buffer = a.buffer ∙ sym (at_start o.buffer 0 fs 0 (omega arith)); counts = a.counts; encodable = a.encodable }

-- after fs came gs
pub more : {o o₁ o₂ : Sink} {fs gs : List Finding} {n r : ℕ} → Found o fs n o₁ → Added o₁ n gs r o₂ → Found o (fs ++ gs) r o₂
more {o} {fs = fs} {gs = gs} h a = record {
  count = a.count ∙ ap (λ (k : ℕ). k + length gs) h.count ∙ sym (length-append fs gs);
  buffer = a.buffer ∙ ap₂ (λ (b : List ℕ) (k : ℕ). put_from b k gs) h.buffer h.count ∙ put_append fs gs o.buffer;
  counts = a.counts ∙ ap (λ (c : List ℕ). count_all c gs) h.counts ∙ count_all_append fs gs o.counts;
  encodable = encodable_append fs gs h.encodable a.encodable;
}

-- after fs, which came after n findings, came gs
pub added_more : {o o₁ o₂ : Sink} {fs gs : List Finding} {n m r : ℕ} → Added o n fs m o₁ → Added o₁ m gs r o₂ → Added o n (fs ++ gs) r o₂
added_more {o} {fs = fs} {gs = gs} {n = n} h a = record {
  count = omega (arith, h.count, a.count, length-append fs gs);
  buffer = a.buffer ∙ ap₂ (λ (b : List ℕ) (k : ℕ). put_from b k gs) h.buffer h.count ∙ put_from_append o.buffer n fs gs;
  counts = a.counts ∙ ap (λ (c : List ℕ). count_all c gs) h.counts ∙ count_all_append fs gs o.counts;
  encodable = encodable_append fs gs h.encodable a.encodable;
}

-- the part of the buffer o from a on, as a callee is lent it, and the buffer when the part is back at ys
abbrev pub part : List ℕ → ℕ → List ℕ
part o a = take (length o - a) (drop a o)

abbrev pub back : List ℕ → ℕ → List ℕ → List ℕ
back o a ys = take a o ++ (ys ++ drop (length o - a) (drop a o))

-- what was found in the part after n findings was added to the whole
pub lent : {c c' : List ℕ} (o : List ℕ) (a n : ℕ) {gs : List Finding} {r : ℕ} {ys : List ℕ}
    → a ≡ start (length o) n → Found (sink (part o a) c) gs r (sink ys c') → Added (sink o c) n gs (n + r) (sink (back o a ys) c')
lent o a n {gs} {r} {ys} e h =
    let whole : part o a ≡ drop a o = take_all (length o - a) (drop a o) (omega (arith, length-drop a o)) in
    let rest : drop (length o - a) (drop a o) ≡ [] = drop_of_length-le (drop a o) {i = length o - a} (omega (arith, length-drop a o)) in
    record { count = ap (λ (k : ℕ). n + k) h.count; buffer = rw (rest, append-nil ys, h.buffer, whole) (at_start o n gs a e); counts = h.counts; encodable = h.encodable }

-- after the findings fs, a rule found gs in the part that was lent to it
pub more_lent : {o : Sink} {o₁ ys c₁ c₂ : List ℕ} {fs gs : List Finding} (a n r : ℕ)
    → a ≡ start (length o₁) n → Found o fs n (sink o₁ c₁) → Found (sink (part o₁ a) c₁) gs r (sink ys c₂) → Found o (fs ++ gs) (n + r) (sink (back o₁ a ys) c₂)
more_lent {o₁ = o₁} a n r e h g = more h (lent o₁ a n e g)

-- after fs, which came after n findings, gs were found in the part that was lent
pub added_lent : {o : Sink} {o₁ ys c₁ c₂ : List ℕ} {fs gs : List Finding} {n : ℕ} (a m r : ℕ)
    → a ≡ start (length o₁) m → Added o n fs m (sink o₁ c₁) → Found (sink (part o₁ a) c₁) gs r (sink ys c₂) → Added o n (fs ++ gs) (m + r) (sink (back o₁ a ys) c₂)
added_lent {o₁ = o₁} a m r e h g = added_more h (lent o₁ a m e g)

-- the same findings, said otherwise
pub added_as : {o o' : Sink} {n r : ℕ} {fs gs : List Finding} → fs ≡ gs → Added o n fs r o' → Added o n gs r o'
added_as e a = rw e at a

-- where the findings are none: sink and count stay
pub added_nil : {o : Sink} {n : ℕ} {fs : List Finding} → fs ≡ [] → Added o n fs n o
unfolding put_from put count_all Encodable
added_nil {o} {n} e = rw e (record { count = omega arith; buffer = sym (take-append-drop (start (length o.buffer) n) o.buffer); counts = refl; encodable = tt })

-- where the buffer has no room for them: it stays
pub added_full : {o c : List ℕ} {n : ℕ} {fs : List Finding} → length o / 17 ≤ n → Encodable fs → Added (sink o c) n fs (n + length fs) (sink o (count_all c fs))
unfolding put_from
added_full {o} {n = n} {fs = fs} h e =
    let at = start (length o) n in
    record {
      count = refl;
      buffer = sym (ap (λ (l : List ℕ). take at o ++ l) (put_full (drop at o) fs (omega (arith, length-drop at o))) ∙ take-append-drop at o);
      counts = refl;
      encodable = e;
    }

-- where a test held, and where it failed
pub added_only : {o o' : Sink} {n r : ℕ} {fs : List Finding} {test b : Bool} → b ≡ test → b ≡ true → Added o n fs r o' → Added o n (only test fs) r o'
unfolding only
added_only e h a = rw (sym e ∙ h) a

pub added_not : {o : Sink} {n : ℕ} {test b : Bool} (fs : List Finding) → b ≡ test → b ≡ false → Added o n (only test fs) n o
unfolding only
added_not fs e h = added_nil (rw (sym e ∙ h))

-- the same findings, said otherwise
pub found_as : {o o' : Sink} {r : ℕ} {fs gs : List Finding} → fs ≡ gs → Found o fs r o' → Found o gs r o'
found_as e h = rw e at h

-- the buffer keeps its length
pub found_length : {o o' : Sink} {fs : List Finding} {r : ℕ} → Found o fs r o' → length o'.buffer ≡ length o.buffer
found_length {o} {fs = fs} h = ap length h.buffer ∙ length_put fs o.buffer

-- the counts keep theirs
pub counts_length : {o o' : Sink} {fs : List Finding} {r : ℕ} → Found o fs r o' → length o'.counts ≡ length o.counts
counts_length {o} {fs = fs} h = ap length h.counts ∙ length_count_all fs o.counts

pub added_counts : {o o' : Sink} {fs : List Finding} {n r : ℕ} → Added o n fs r o' → length o'.counts ≡ length o.counts
added_counts {o} {fs = fs} a = ap length a.counts ∙ length_count_all fs o.counts

-- where the findings are fewer than 2^64, no count that was 0 wraps
pub found_counted : {o o' : Sink} {fs : List Finding} {r : ℕ} → Found o fs r o' → r < 2 ^ 64 → Counted o.counts fs o'.counts
found_counted {o} {fs = fs} h few k l z = ap (λ (c : List ℕ). get_or c k 0) h.counts ∙ counted fs o.counts (omega (arith, h.count)) k l z
