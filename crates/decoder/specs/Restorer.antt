-- Document 01, "Restorer", and its questions 14, 17, 18 and 8. Assumes nothing.
use Rattle.std.specs.Prelude.{◌≡◌, Bool, true, false, cond, not, ◌&&◌, List, [], ◌∷◌, ◌++◌, map, ℕ, zero, suc, ◌+◌, ◌*◌, eqb, leb, length, get_or, take, drop, set, replicate, Result, Ok, Err}
use Rattle.field.specs.Bytes.{xor_lists, same_bytes}
use Rattle.droplet.specs.declared.card.Card.{Card}
use Rattle.droplet.specs.PoolCard.{segment_count, weight_count}
use Rattle.droplet.specs.Questions.{card_refusal}
use Rattle.droplet.specs.Droplet.{segments_of, payload}
use Rattle.droplet.specs.declared.refusal.Refusal.{Refusal}
use Rattle.droplet.specs.Refusals.{refusal_number}
use Rattle.decoder.specs.declared.restorer.Sheet.{Sheet}
use Rattle.decoder.specs.Store.{Record, records, count_fits}

-- "The droplets on a shelf are its records, each with the set that its seed picks"
pub record Droplet : Type 0 where
  pub segments : List ℕ
  pub payload : List ℕ

unfoldable pub droplets : Card → List ℕ → List ℕ → ℕ → List Droplet
droplets c weights buffer count =
    map (λ r. record { segments = segments_of weights (segment_count c) r.read.seed; payload = r.read.payload }) (records c.l count buffer)

-- the file and the marks
pub record State : Type 0 where
  pub file : List ℕ
  pub marks : List ℕ

-- a segment "is present if its mark is 1, otherwise missing"
unfoldable pub marked : List ℕ → ℕ → Bool
marked marks i = eqb (get_or marks i 0) 1

-- the segments of a set that are still unmarked, and those that are marked
unfoldable pub missing : List ℕ → List ℕ → List ℕ
missing marks [] = []
missing marks (s ∷ ss) = cond (marked marks s) (missing marks ss) (s ∷ missing marks ss)

unfoldable pub known : List ℕ → List ℕ → List ℕ
known marks [] = []
known marks (s ∷ ss) = cond (marked marks s) (s ∷ known marks ss) (known marks ss)

-- "fills it with the payload XOR its marked segments, and marks it 1"
unfoldable pub filled : ℕ → Droplet → State → ℕ → State
filled L d st i = record {
  file = take (i * L) st.file ++ (xor_lists d.payload (payload L st.file (known st.marks d.segments)) ++ drop (i * L + L) st.file);
  marks = set st.marks i 1;
}

-- "a record with exactly one segment still unmarked fills it"
unfoldable pub filled_by : ℕ → Droplet → State → List ℕ → State
filled_by L d st [] = st
filled_by L d st (i ∷ []) = filled L d st i
filled_by L d st (i ∷ (j ∷ rest)) = st

unfoldable pub step : ℕ → Droplet → State → State
step L d st = filled_by L d st (missing st.marks d.segments)

-- "A sweep goes over the records in shelf order": one pass
unfoldable pub pass : ℕ → List Droplet → State → State
pass L [] st = st
pass L (d ∷ ds) st = pass L ds (step L d st)

-- "present (marks set)", of the first n marks
unfoldable pub present : ℕ → List ℕ → ℕ
present zero marks = 0
present (suc n) marks = cond (marked marks n) (suc (present n marks)) (present n marks)

-- what peeling ends with
pub data Peeled : Type 0 where
  peeled : ℕ → State → Peeled

abbrev pub peeled_passes : Peeled → ℕ
peeled_passes (peeled n st) = n

abbrev pub peeled_state : Peeled → State
peeled_state (peeled n st) = st

-- "Sweeps repeat until one fills nothing; that last one is counted too": after `done` passes, at most `fuel` more
unfoldable pub peel : ℕ → ℕ → ℕ → List Droplet → ℕ → State → Peeled
peel zero K L ds done st = peeled done st
peel (suc fuel) K L ds done st =
    cond (eqb (present K (pass L ds st).marks) (present K st.marks)) (peeled (suc done) (pass L ds st))
    (peel fuel K L ds (suc done) (pass L ds st))

-- "It sets the first K·L file bytes and K marks to 0"
unfoldable pub cleared : ℕ → ℕ → List ℕ → List ℕ → State
cleared K L file marks = record { file = replicate (K * L) 0 ++ drop (K * L) file; marks = replicate K 0 ++ drop K marks }

-- each pass but the last fills a segment, so K + 1 passes are enough
unfoldable pub peel_all : ℕ → ℕ → List Droplet → List ℕ → List ℕ → Peeled
peel_all K L ds file marks = peel (suc K) K L ds 0 (cleared K L file marks)

-- "records whose segments are all marked but whose XOR differs from the payload"
abbrev pub is_nil : List ℕ → Bool
is_nil [] = true
is_nil (x ∷ xs) = false

unfoldable pub contradicts : ℕ → State → Droplet → Bool
contradicts L st d = is_nil (missing st.marks d.segments) && not (same_bytes (payload L st.file d.segments) d.payload)

unfoldable pub contradictions : ℕ → List Droplet → State → ℕ
contradictions L [] st = 0
contradictions L (d ∷ ds) st = cond (contradicts L st d) (suc (contradictions L ds st)) (contradictions L ds st)

-- 17: "No seed 0 on the shelf?"
unfoldable pub has_seed : ℕ → List Record → Bool
has_seed s [] = false
has_seed s (r ∷ rs) = cond (eqb r.read.seed s) true (has_seed s rs)

-- 18: "File at least K·L, marks at least K?", then 8: "Number list at least D long?"
unfoldable pub room_refusal : ℕ → ℕ → ℕ → ℕ → ℕ → ℕ → ℕ
room_refusal K L D file_length marks_length list_length =
    cond (leb (K * L) file_length && leb K marks_length) (cond (leb D list_length) 0 8) 18

-- 14, 17, 18 and 8
unfoldable pub later_refusal : ℕ → ℕ → ℕ → List ℕ → ℕ → ℕ → ℕ → ℕ → ℕ
later_refusal K L D buffer count file_length marks_length list_length =
    cond (count_fits L buffer count)
    (cond (has_seed 0 (records L count buffer)) 17 (room_refusal K L D file_length marks_length list_length)) 14

-- 2 to 4 and 27, and then these
unfoldable pub restore_refusal : Card → List ℕ → List ℕ → ℕ → ℕ → ℕ → ℕ → ℕ
restore_refusal c weights buffer count file_length marks_length list_length =
    cond (eqb (card_refusal c weights) 0)
    (later_refusal (segment_count c) c.l (weight_count weights) buffer count file_length marks_length list_length) (card_refusal c weights)

-- what a restore answers, by its cases: present, sweeps and contradictions, or the refusal number
pub data Restored : Type 0 where
  restored : ℕ → ℕ → ℕ → Restored
  refusal : ℕ → Restored

abbrev pub restore_answer : Result Sheet Refusal → Restored
restore_answer (Ok s) = restored s.present s.passes s.contradictions
restore_answer (Err q) = refusal (refusal_number q)

-- the sheet of a peeled state
abbrev pub sheet_of : ℕ → ℕ → List Droplet → Peeled → Restored
sheet_of K L ds (peeled n st) = restored (present K st.marks) n (contradictions L ds st)

-- the answer with file and marks after the call
pub data RestoreEnd : Type 0 where
  restore_end : Restored → State → RestoreEnd

abbrev pub end_answer : RestoreEnd → Restored
end_answer (restore_end a st) = a

abbrev pub end_state : RestoreEnd → State
end_state (restore_end a st) = st

unfoldable pub restore : Card → List ℕ → List ℕ → ℕ → List ℕ → List ℕ → ℕ → RestoreEnd
restore c weights buffer count file marks list_length =
    let ds = droplets c weights buffer count in
    let end = peel_all (segment_count c) c.l ds file marks in
    let no = restore_refusal c weights buffer count (length file) (length marks) list_length in
    cond (eqb no 0) (restore_end (sheet_of (segment_count c) c.l ds end) (peeled_state end))
    (restore_end (refusal no) (record { file = file; marks = marks }))

-- the promise of a restore: its answer, file and marks at exit, and the number list, free in its first D places alone
pub record RestorePromise (c : Card) (weights buffer : List ℕ) (count : ℕ) (file marks list : List ℕ) (r : Result Sheet Refusal)
    (file' marks' list' : List ℕ) : Type 0 where
  pub says : restore_answer r ≡ end_answer (restore c weights buffer count file marks (length list))
  pub fills : file' ≡ (end_state (restore c weights buffer count file marks (length list))).file
  pub sets : marks' ≡ (end_state (restore c weights buffer count file marks (length list))).marks
  pub keeps : drop (weight_count weights) list' ≡ drop (weight_count weights) list
  pub untouched : eqb (restore_refusal c weights buffer count (length file) (length marks) (length list)) 0 ≡ false → list' ≡ list
