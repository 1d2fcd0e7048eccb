-- A written compact form reads back.
use Rattle.std.proofs.Common.{◌≡◌, ℕ, ◌+◌, ◌-◌, ◌*◌, ◌/◌, ◌%◌, ◌<◌, ◌≤◌, ◌^◌, ◌==◌, ◌&&◌, suc, le-leb, lt-ltb, neg_ℤ, ◌+ℤ◌, ℤ, pos, negsuc, Bool, true, false, if◌then◌else◌, nat_le, nat_lt, List, [], ◌∷◌, ◌++◌, length, take, drop, Option, Some, refl, sym, ap, ◌∙◌, arith, append_assoc, append-nil}
use Rattle.std.specs.List.{flat_map, AllByRecursion}
use Rattle.std.specs.Int.{w64, cast_signed, cast_unsigned, int_div_euclid, int_rem_euclid}
use Rattle.std.specs.Prelude.{unsigned_abs}
use Rattle.std.proofs.Math.Facts.{leb_yes}
use Rattle.std.proofs.Math.Seq.{take-append_seam, drop-append_seam}
use Rattle.std.proofs.lemmas.List.{length-append}
use Rattle.std.proofs.lemmas.Nat.{from_be_bytes-to_be_bytes_2, from_be_bytes-to_be_bytes_4, from_be_bytes-to_be_bytes_8}
use Rattle.std.proofs.lemmas.Int.{to_z-of_z}
use Rattle.jiff_core.specs.Timestamp.{IsTimestampNanos}
use Rattle.http_cache_rules.specs.Exchange.{Exchange}
use Rattle.http_cache_rules.specs.Options.{Options}
use Rattle.http_cache_json.specs.Form.{given, ◌>>=◌, is_instant, instant_at}
use Rattle.http_cache_json.specs.Pairs.{Pair}
use Rattle.http_cache_compact.specs.Compact.{Texts, number_2, number_4, number_8, cut, field_of, fields_of, options_at, are_options, time_of, texts_of, has_numbers}
use Rattle.http_cache_compact.specs.Written.{text_2, text_4, text_8, options_text, time_text, numbers_text, field_text, compact_text, IsWritableField, IsWritable}

cut_back : (n : ℕ) (a b bytes : List ℕ) → n ≡ length a → bytes ≡ a ++ b → cut n bytes ≡ Some (a, b)
unfolding cut
cut_back n a b bytes is split =
    let fits : n ≤ length bytes = omega (arith, ap length split, length-append a b) in
    let front : take n bytes ≡ a = (λ i. take (is i) (split i)) ∙ take-append_seam a b in
    let rest : drop n bytes ≡ b = (λ i. drop (is i) (split i)) ∙ drop-append_seam a b in
    ap (λ t. given t (take n bytes, drop n bytes)) (le-leb n (length bytes) fits) ∙ (λ i. Some (front i, rest i))

-- a step whose test holds continues
starts : {A B : Type 0} (b : Bool) (x : A) (f : A → Option B) → b ≡ true → (given b x >>= f) ≡ f x
starts b x f is = ap (λ c. given c x >>= f) is

-- a field line is read by its lengths
field_by : (n v : ℕ) (lines name value rest : List ℕ) → n ≡ length name → v ≡ length value
    → lines ≡ name ++ (value ++ rest)
    → (cut n lines >>= (λ (a : List ℕ × List ℕ). cut v a.1 >>= (λ (b : List ℕ × List ℕ).
    let read : Pair × List ℕ = ((a.0, b.0), b.1) in Some read))) ≡ Some ((name, value), rest)
field_by n v lines name value rest named valued split =
    rw (cut_back n name (value ++ rest) lines named split) (rw (cut_back v value rest (value ++ rest) valued refl) refl)

field_back : (p : Pair) (rest : List ℕ) → IsWritableField p → field_of (field_text p ++ rest) ≡ Some (p, rest)
unfolding field_of text_2 text_4 number_2 number_4
field_back p rest w =
    let long : 6 ≤ length (field_text p ++ rest) = omega arith in
    starts (nat_le 6 (length (field_text p ++ rest))) (drop 6 (field_text p ++ rest)) _ (le-leb 6 _ long)
    ∙ field_by (number_2 (field_text p ++ rest) 0) (number_4 (field_text p ++ rest) 2) (drop 6 (field_text p ++ rest)) p.0 p.1 rest
    (from_be_bytes-to_be_bytes_2 (length p.0) w.name_length) (from_be_bytes-to_be_bytes_4 (length p.1) w.value_length)
    (append_assoc p.0 p.1 rest)

fields_back : (ps : List Pair) (rest : List ℕ) → AllByRecursion IsWritableField ps
    → fields_of (length ps) (flat_map field_text ps ++ rest) ≡ Some (ps, rest)
unfolding fields_of
fields_back [] rest all = refl
fields_back (p ∷ ps) rest all =
    ap (fields_of (suc (length ps))) (append_assoc (field_text p) (flat_map field_text ps) rest)
    ∙ rw (field_back p (flat_map field_text ps ++ rest) all.0) (rw (fields_back ps rest all.1) refl)

-- the texts are read by their lengths and counts
texts_by : (m n a b : ℕ) (lines : List ℕ) (t : Texts) → m ≡ length t.method → n ≡ length t.target
    → a ≡ length t.request → b ≡ length t.response
    → AllByRecursion IsWritableField t.request → AllByRecursion IsWritableField t.response
    → lines ≡ t.method ++ (t.target ++ (flat_map field_text t.request ++ flat_map field_text t.response))
    → (cut m lines >>= (λ (method : List ℕ × List ℕ). cut n method.1 >>= (λ (target : List ℕ × List ℕ).
    fields_of a target.1 >>= (λ (request : List Pair × List ℕ).
    fields_of b request.1 >>= (λ (response : List Pair × List ℕ).
    let read : Texts = record { method = method.0; target = target.0; request = request.0; response = response.0 } in
    given (length response.1 == 0) read))))) ≡ Some t
texts_by m n a b lines t ms ns rs bs asked answered split =
    let answers : fields_of b (flat_map field_text t.response) ≡ Some (t.response, []) =
    ap (λ k. fields_of k (flat_map field_text t.response)) bs
    ∙ ap (fields_of (length t.response)) (sym (append-nil _)) ∙ fields_back t.response [] answered in
    let asks : fields_of a (flat_map field_text t.request ++ flat_map field_text t.response)
    ≡ Some (t.request, flat_map field_text t.response) =
    ap (λ k. fields_of k (flat_map field_text t.request ++ flat_map field_text t.response)) rs
    ∙ fields_back t.request _ asked in
    rw (cut_back m t.method _ lines ms split)
    (rw (cut_back n t.target _ (t.target ++ (flat_map field_text t.request ++ flat_map field_text t.response)) ns refl)
    (rw asks (rw answers refl)))

regroup : (a b c d : List ℕ) → ((a ++ b) ++ c) ++ d ≡ a ++ (b ++ (c ++ d))
regroup a b c d = simp append_assoc

pub texts_back : (e : Exchange) (t : Texts) → IsWritable e t → texts_of (compact_text e t) ≡ Some t
unfolding texts_of numbers_text options_text time_text text_2 text_4 text_8 number_4
texts_back e t w =
    let bytes = compact_text e t in
    texts_by (number_4 bytes 36) (number_4 bytes 40) (number_4 bytes 44) (number_4 bytes 48) (drop 52 bytes) t
    (from_be_bytes-to_be_bytes_4 (length t.method) w.method) (from_be_bytes-to_be_bytes_4 (length t.target) w.target)
    (from_be_bytes-to_be_bytes_4 (length t.request) w.request.count)
    (from_be_bytes-to_be_bytes_4 (length t.response) w.response.count) w.request.fields w.response.fields
    (regroup t.method t.target (flat_map field_text t.request) (flat_map field_text t.response))

pub status_back : (e : Exchange) (t : Texts) → IsWritable e t → number_2 (compact_text e t) 34 ≡ e.status
unfolding numbers_text options_text time_text text_2 text_4 text_8 number_2
status_back e t w = from_be_bytes-to_be_bytes_2 e.status (omega (arith, w.code.1))

-- ---- options

flags_below : (s c : Bool) → nat_lt ((if s then 1 else 0) + (if c then 2 else 0)) 4 ≡ true
flags_below true true = refl
flags_below true false = refl
flags_below false true = refl
flags_below false false = refl

shared_back : (s c : Bool) → (((if s then 1 else 0) + (if c then 2 else 0)) % 2 == 1) ≡ s
shared_back true true = refl
shared_back true false = refl
shared_back false true = refl
shared_back false false = refl

cult_back : (s c : Bool) → nat_le 2 ((if s then 1 else 0) + (if c then 2 else 0)) ≡ c
cult_back true true = refl
cult_back true false = refl
cult_back false true = refl
cult_back false false = refl

options_by : (s c : Bool) (n d i : ℕ) (o : Options) → s ≡ o.shared → n ≡ o.heuristic.numerator
    → d ≡ o.heuristic.denominator → i ≡ o.immutable_nanos → c ≡ o.ignores_cargo_cult
    → record { shared = s; heuristic = record { numerator = n; denominator = d }; immutable_nanos = i; ignores_cargo_cult = c } ≡ o
options_by s c n d i o ss ns ds is cs = λ j. record {
  shared = ss j;
  heuristic = record { numerator = ns j; denominator = ds j };
  immutable_nanos = is j;
  ignores_cargo_cult = cs j;
}

whole : (n : ℕ) → n / 1_000_000_000 * 1_000_000_000 + n % 1_000_000_000 ≡ n
whole n = omega arith

pub options_back : (e : Exchange) (t : Texts) → IsWritable e t → options_at (compact_text e t) ≡ e.options
unfolding numbers_text options_text time_text text_2 text_4 text_8 number_4 number_8
options_back e t w =
    let o = e.options in
    let bytes = compact_text e t in
    let seconds : number_8 bytes 10 ≡ o.immutable_nanos / 1_000_000_000 =
    from_be_bytes-to_be_bytes_8 (o.immutable_nanos / 1_000_000_000) w.immutable in
    let nanos : number_4 bytes 18 ≡ o.immutable_nanos % 1_000_000_000 =
    from_be_bytes-to_be_bytes_4 (o.immutable_nanos % 1_000_000_000) (omega arith) in
    options_by _ _ _ _ _ o (shared_back o.shared o.ignores_cargo_cult)
    (from_be_bytes-to_be_bytes_4 o.heuristic.numerator (omega (arith, w.options.numerator)))
    (from_be_bytes-to_be_bytes_4 o.heuristic.denominator (omega (arith, w.options.denominator)))
    ((λ j. seconds j * 1_000_000_000 + nanos j) ∙ whole o.immutable_nanos)
    (cult_back o.shared o.ignores_cargo_cult)

all_three : (a b c : Bool) → a ≡ true → b ≡ true → c ≡ true → ((a && b) && c) ≡ true
all_three a b c p q r = rw p (rw q r)

pub numbers_back : (e : Exchange) (t : Texts) → IsWritable e t → has_numbers (compact_text e t) ≡ true
unfolding has_numbers numbers_text options_text time_text text_2 text_4 text_8 number_4
numbers_back e t w =
    let o = e.options in
    let bytes = compact_text e t in
    let nanos : number_4 bytes 18 ≡ o.immutable_nanos % 1_000_000_000 =
    from_be_bytes-to_be_bytes_4 (o.immutable_nanos % 1_000_000_000) (omega arith) in
    let below : number_4 bytes 18 < 1_000_000_000 = omega (arith, nanos) in
    let parts : number_4 bytes 6 ≡ o.heuristic.denominator =
    from_be_bytes-to_be_bytes_4 o.heuristic.denominator (omega (arith, w.options.denominator)) in
    let some : 0 < number_4 bytes 6 = omega (arith, parts, w.options.not_zero) in
    let options : are_options bytes ≡ true =
    all_three _ _ _ (flags_below o.shared o.ignores_cargo_cult) (lt-ltb _ _ below) (lt-ltb _ _ some) in
    let long : 52 ≤ length bytes = omega arith in
    all_three _ _ _ (le-leb 52 (length bytes) long) refl options

-- ---- the time

after_second : (q r m a : ℕ) → suc q * 1_000_000_000 ≡ suc m → r < suc m → m - r ≡ a
    → instant_at (negsuc q) r ≡ negsuc a
after_second q r m a product below left =
    ap (λ k. neg_ℤ (pos k) +ℤ pos r) product ∙ rw (lt-ltb _ _ below) (ap negsuc (omega (arith, left)))

time_by : (n : ℕ) (s t : ℤ) → n < 1_000_000_000 → instant_at s n ≡ t → is_instant t ≡ true
    → given (nat_lt n 1_000_000_000 && is_instant (instant_at s n)) (instant_at s n) ≡ Some t
time_by n s t below is instant =
    rw (lt-ltb _ _ below) (ap (λ k. given (is_instant k) k) is ∙ ap (λ b. given b t) instant)

time_parts : (x n : ℕ) (s : ℤ) (r : ℕ) (t : ℤ) → x ≡ cast_unsigned w64 s → cast_signed w64 (cast_unsigned w64 s) ≡ s
    → n ≡ r → r < 1_000_000_000 → instant_at s r ≡ t → is_instant t ≡ true
    → given (nat_lt n 1_000_000_000 && is_instant (instant_at (cast_signed w64 x) n)) (instant_at (cast_signed w64 x) n) ≡ Some t
time_parts x n s r t xs back ns below is instant =
    (λ i. given (nat_lt (ns i) 1_000_000_000 && is_instant (instant_at ((ap (cast_signed w64) xs ∙ back) i) (ns i)))
    (instant_at ((ap (cast_signed w64) xs ∙ back) i) (ns i)))
    ∙ time_by r s t below is instant

at_time : (t : ℤ) → IsTimestampNanos t → (x n : ℕ)
    → (cast_unsigned w64 (int_div_euclid t (pos 1_000_000_000)) < 2 ^ 64
    → x ≡ cast_unsigned w64 (int_div_euclid t (pos 1_000_000_000)))
    → (unsigned_abs (int_rem_euclid t (pos 1_000_000_000)) < 2 ^ 32
    → n ≡ unsigned_abs (int_rem_euclid t (pos 1_000_000_000)))
    → given (nat_lt n 1_000_000_000 && is_instant (instant_at (cast_signed w64 x) n)) (instant_at (cast_signed w64 x) n) ≡ Some t
at_time (pos a) h x n xs ns =
    let top : a ≤ 253_402_207_200_999_999_999 = leb_yes h.1.le in
    let small : a / 1_000_000_000 < 9_223_372_036_854_775_808 = omega (arith, top) in
    let below : a % 1_000_000_000 < 1_000_000_000 = omega arith in
    let is : instant_at (pos (a / 1_000_000_000)) (a % 1_000_000_000) ≡ pos a = ap pos (omega arith) in
    let instant : is_instant (pos a) ≡ true = le-leb _ _ top in
    time_parts x n (pos (a / 1_000_000_000)) (a % 1_000_000_000) (pos a) (xs (omega (arith, small)))
    (to_z-of_z w64 (pos (a / 1_000_000_000)) (record { sfits = small })) (ns (omega (arith, below))) below is instant
at_time (negsuc a) h x n xs ns =
    let low : a ≤ 377_705_023_200_999_999_999 = leb_yes h.0.le in
    let small : a / 1_000_000_000 < 9_223_372_036_854_775_808 = omega (arith, low) in
    let below : 999_999_999 - a % 1_000_000_000 < 1_000_000_000 = omega arith in
    let is : instant_at (negsuc (a / 1_000_000_000)) (999_999_999 - a % 1_000_000_000) ≡ negsuc a =
    after_second (a / 1_000_000_000) (999_999_999 - a % 1_000_000_000)
    (a / 1_000_000_000 * 1_000_000_000 + 999_999_999) a
    (omega arith) (omega arith) (omega arith) in
    let instant : is_instant (negsuc a) ≡ true = rw (le-leb _ _ low) refl in
    time_parts x n (negsuc (a / 1_000_000_000)) (999_999_999 - a % 1_000_000_000) (negsuc a) (xs (omega arith))
    (to_z-of_z w64 (negsuc (a / 1_000_000_000)) (record { sfits = small })) (ns (omega (arith, below))) below is instant

pub time_back : (e : Exchange) (t : Texts) → IsWritable e t → time_of (compact_text e t) ≡ Some e.response_time
unfolding time_of numbers_text options_text time_text text_2 text_4 text_8 number_4 number_8
time_back e t w =
    at_time e.response_time w.response_time (number_8 (compact_text e t) 22) (number_4 (compact_text e t) 30)
    (λ fits. from_be_bytes-to_be_bytes_8 (cast_unsigned w64 (int_div_euclid e.response_time (pos 1_000_000_000))) fits)
    (λ fits. from_be_bytes-to_be_bytes_4 (unsigned_abs (int_rem_euclid e.response_time (pos 1_000_000_000))) fits)
