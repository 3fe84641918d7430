-- Records and their bytes: of one width, one after the other, read back as they were written, and what it does to them to write one more,
-- payload and state of one, or its count. Assumes nothing.
use mathlib.Core.Path.{◌≡◌, refl, sym, ap, ◌∙◌}
use mathlib.Core.Bool.{Bool, true, false}
use mathlib.Core.List.{List, [], ◌∷◌, ◌++◌, append_assoc, append-nil}
use Prim.Native.Nat.{ℕ, suc, ◌+◌, ◌*◌, ◌^◌, ◌≤◌, ◌<◌}
use native.Mathlib.Omega.{arith}
use lib.ListN.{length, get_or, take, drop, length-append, length-drop, take-append-drop}
use lib.Seq.{length-take-le, take_at, drop_at, drop-drop, get_or-drop}
use Rattle.field.specs.Bytes.{All, from_big_endian, to_big_endian}
use Rattle.field.proofs.BigEndian.{to-from, to-length}
use Rattle.decoder.specs.Store.{LegalRead, Record, state_byte, reads_clean, record_bytes, evidence_text, record_text, record_seed, record_payload, record_state, record_count, record_from, records_text, records, evidence_place, count_place, overwritten}

-- a read with a seed of four bytes and a payload of L bytes, and a record of one, with a count of four bytes
pub record IsRead (L : ℕ) (r : LegalRead) : Type 0 where
  pub seed_fits : r.seed < 2 ^ 32
  pub size : length r.payload ≡ L

pub record IsRecord (L : ℕ) (r : Record) : Type 0 where
  pub holds : IsRead L r.read
  pub count_fits : r.count < 2 ^ 32

-- ---- one record

state-back : (b : Bool) → reads_clean (state_byte b) ≡ b
state-back true = refl
state-back false = refl

pub evidence-length : (payload : List ℕ) (b : Bool) → length (evidence_text payload b) ≡ length payload + 1
unfolding evidence_text
evidence-length payload b = length-append payload (state_byte b ∷ [])

pub text-size : (r : Record) → length (record_text r) ≡ record_bytes (length r.read.payload)
unfolding record_text record_bytes
text-size r =
    simp (length-append, to-length r.read.seed, evidence-length r.read.payload r.read.clean, to-length r.count) (omega arith)

module _ (L : ℕ) where
  -- a record has room for its seed, its payload, its state and its count
  pub parts-fit : 9 + L ≤ record_bytes L
  unfolding record_bytes
  parts-fit = omega arith

  pub payload-size : (bytes : List ℕ) → record_bytes L ≤ length bytes → length (record_payload L bytes) ≡ L
  unfolding record_payload
  payload-size bytes long = length-take-le L (drop 4 bytes) (rw length-drop (omega (arith, parts-fit)))

  text-length : (r : Record) → IsRecord L r → length (record_text r) ≡ record_bytes L
  text-length r h = text-size r ∙ ap record_bytes h.holds.size

  record-back : (r : Record) (rest : List ℕ) → IsRecord L r → record_from L (record_text r ++ rest) ≡ r
  unfolding record_from record_text evidence_text record_payload record_state record_count
  record-back r rest h =
      let read = r.read in
      let seed_bytes = to_big_endian read.seed in
      let state = state_byte read.clean in
      let counts = to_big_endian r.count ++ rest in
      let all = record_text r ++ rest in
      let e : all ≡ seed_bytes ++ (read.payload ++ (state ∷ counts)) = simp append_assoc in
      let past : drop 4 all ≡ read.payload ++ (state ∷ counts) = rw e (drop_at seed_bytes _ 4 (to-length read.seed)) in
      let s : record_seed all ≡ read.seed
      = rw (e, take_at seed_bytes (read.payload ++ (state ∷ counts)) 4 (to-length read.seed)) (to-from read.seed h.holds.seed_fits) in
      let p : record_payload L all ≡ read.payload = rw past (take_at read.payload (state ∷ counts) L h.holds.size) in
      let behind : drop (4 + L) all ≡ state ∷ counts = sym (drop-drop L 4 all) ∙ rw past (drop_at read.payload (state ∷ counts) L h.holds.size) in
      let place : 4 + L ≡ 4 + L + 0 = omega arith in
      let at : get_or all (4 + L) 0 ≡ get_or (drop (4 + L) all) 0 0 = ap (λ (n : ℕ). get_or all n 0) place ∙ sym (get_or-drop (4 + L) all 0 0) in
      let m : reads_clean (record_state L all) ≡ read.clean = rw (at, behind) (state-back read.clean) in
      let next : 5 + L ≡ 4 + L + 1 = omega arith in
      let last : drop (5 + L) all ≡ counts = ap (λ (n : ℕ). drop n all) next ∙ sym (drop-drop 1 (4 + L) all) ∙ ap (drop 1) behind in
      let four : take 4 (drop (5 + L) all) ≡ to_big_endian r.count = ap (take 4) last ∙ take_at (to_big_endian r.count) rest 4 (to-length r.count) in
      let n : record_count L all ≡ r.count = ap from_big_endian four ∙ to-from r.count h.count_fits in
      λ i. record { read = record { seed = s i; payload = p i; clean = m i }; count = n i }

-- ---- records one after the other

texts-join : (rs rs' : List Record) → records_text (rs ++ rs') ≡ records_text rs ++ records_text rs'
unfolding records_text
texts-join [] rs' = refl
texts-join (r ∷ rs) rs' = rw (texts-join rs rs') (sym (append_assoc (record_text r) (records_text rs) (records_text rs')))

texts-one : (r : Record) (rs : List Record) → records_text (r ∷ rs) ≡ record_text r ++ records_text rs
unfolding records_text
texts-one r rs = refl

overwritten-part : (a b b' c : List ℕ) (at : ℕ) → length a ≡ at → length b ≡ length b' → overwritten at b' (a ++ (b ++ c)) ≡ a ++ (b' ++ c)
unfolding overwritten
overwritten-part a b b' c at e f =
    rw (take_at a (b ++ c) at e, ← drop-drop (length b') at (a ++ (b ++ c)), drop_at a (b ++ c) at e, drop_at b c (length b') f)

module _ (L : ℕ) where
  pub texts-length : (rs : List Record) → All (IsRecord L) rs → length (records_text rs) ≡ length rs * record_bytes L
  unfolding records_text
  texts-length [] h = omega arith
  texts-length (r ∷ rs) h =
      rw (length-append (record_text r) (records_text rs)) (omega (arith, text-length L r h.0, texts-length rs h.1))

  -- records are read back, whatever stands behind them
  pub records-back : (rs : List Record) (rest : List ℕ) → All (IsRecord L) rs → records L (length rs) (records_text rs ++ rest) ≡ rs
  unfolding records records_text
  records-back [] rest h = refl
  records-back (r ∷ rs) rest h =
      rw (
        append_assoc (record_text r) (records_text rs) rest,
        record-back L r (records_text rs ++ rest) h.0,
        drop_at (record_text r) (records_text rs ++ rest) (record_bytes L) (text-length L r h.0),
      )
      (ap (λ (l : List Record). r ∷ l) (records-back rs rest h.1))

  -- one more record, written behind the others over what was lent
  pub texts-more : (lent : List ℕ) (rs : List Record) (r : Record) → All (IsRecord L) rs → IsRecord L r
      → suc (length rs) * record_bytes L ≤ length lent
      → overwritten (length rs * record_bytes L) (record_text r) (records_text rs ++ drop (length rs * record_bytes L) lent)
      ≡ records_text (rs ++ (r ∷ [])) ++ drop (length (rs ++ (r ∷ [])) * record_bytes L) lent
  texts-more lent rs r h f space =
      let n = length rs * record_bytes L in
      let behind = drop n lent in
      let counted : length (rs ++ (r ∷ [])) * record_bytes L ≡ n + record_bytes L = rw length-append (omega arith) in
      let size : length (take (record_bytes L) behind) ≡ length (record_text r)
      = length-take-le (record_bytes L) behind (rw length-drop (omega arith)) ∙ sym (text-length L r f) in
      let one : records_text (r ∷ []) ≡ record_text r = texts-one r [] ∙ unfold records_text in append-nil (record_text r) in
      rw (counted, ← drop-drop (record_bytes L) n lent, texts-join rs (r ∷ []), one, append_assoc (records_text rs) (record_text r) (drop (record_bytes L) behind))
      (ap (λ (l : List ℕ). overwritten n (record_text r) (records_text rs ++ l)) (sym (take-append-drop (record_bytes L) behind))
      ∙ overwritten-part (records_text rs) (take (record_bytes L) behind) (record_text r) (drop (record_bytes L) behind) n (texts-length rs h) size)

  -- a part of a record written over, with records before and after it and bytes behind them
  texts-part : (before : List Record) (q q' : Record) (after : List Record) (rest front old new back : List ℕ) (n : ℕ) → All (IsRecord L) before
      → record_text q ≡ front ++ (old ++ back) → record_text q' ≡ front ++ (new ++ back) → length front ≡ n → length old ≡ length new
      → overwritten (length before * record_bytes L + n) new (records_text (before ++ (q ∷ after)) ++ rest) ≡ records_text (before ++ (q' ∷ after)) ++ rest
  texts-part before q q' after rest front old new back n good e e' size same =
      let tail = back ++ (records_text after ++ rest) in
      let shape : (x : Record) (part : List ℕ) → record_text x ≡ front ++ (part ++ back)
      → records_text (before ++ (x ∷ after)) ++ rest ≡ (records_text before ++ front) ++ (part ++ tail)
      = λ x part f. rw (texts-join before (x ∷ after), texts-one x after, f) (simp append_assoc) in
      let long : length (records_text before ++ front) ≡ length before * record_bytes L + n = simp (length-append, texts-length before good, size) in
      rw (shape q old e, shape q' new e') (overwritten-part (records_text before ++ front) old new tail (length before * record_bytes L + n) long same)

  -- payload and state, with another read of the seed
  pub texts-replaced : (before : List Record) (q : Record) (after : List Record) (rest : List ℕ) (r : LegalRead) → All (IsRecord L) before
      → IsRecord L q → IsRead L r → r.seed ≡ q.read.seed
      → overwritten (evidence_place (length before * record_bytes L)) (evidence_text r.payload r.clean) (records_text (before ++ (q ∷ after)) ++ rest)
      ≡ records_text (before ++ (record { read = r; count = q.count } ∷ after)) ++ rest
  unfolding record_text
  texts-replaced before q after rest r good fq fr e =
      texts-part before q (record { read = r; count = q.count }) after rest (to_big_endian q.read.seed)
      (evidence_text q.read.payload q.read.clean) (evidence_text r.payload r.clean) (to_big_endian q.count) 4 good
      refl (rw e) (to-length q.read.seed)
      (rw (evidence-length q.read.payload q.read.clean, evidence-length r.payload r.clean, fq.holds.size, fr.size))

  -- the count
  pub texts-counted : (before : List Record) (q : Record) (after : List Record) (rest : List ℕ) (n : ℕ) → All (IsRecord L) before → IsRecord L q
      → overwritten (count_place L (length before * record_bytes L)) (to_big_endian n) (records_text (before ++ (q ∷ after)) ++ rest)
      ≡ records_text (before ++ (record { read = q.read; count = n } ∷ after)) ++ rest
  unfolding record_text
  texts-counted before q after rest n good fq =
      let read = q.read in
      let front = to_big_endian read.seed ++ evidence_text read.payload read.clean in
      let parts : (m : ℕ) → record_text (record { read = read; count = m }) ≡ front ++ (to_big_endian m ++ []) = λ m. simp (append_assoc, append-nil) in
      texts-part before q (record { read = read; count = n }) after rest front (to_big_endian q.count) (to_big_endian n) [] (5 + L) good
      (parts q.count) (parts n)
      (rw (length-append, to-length read.seed, evidence-length read.payload read.clean, fq.holds.size) (omega arith))
      (rw (to-length q.count, to-length n))
