-- The writer's promise, for each way in which it answers: refused by a question, or after a run; and what an answer tells of its run.
-- Assumes nothing.
use mathlib.Core.Path.{◌≡◌, refl, sym, ap, ◌∙◌}
use mathlib.Core.Bool.{true, ◌&&◌}
use mathlib.Core.List.{List, ◌++◌}
use mathlib.Core.Logic.{inl, inr}
use Prim.Native.Nat.{ℕ, ◌+◌, ◌*◌, ◌≤◌}
use native.Mathlib.Omega.{arith}
use borrow.Author.Tests.{eq-eqb, ne_eqb, eqb-true, eqb-false, leb-true}
use lib.Dec.{eqb, leb}
use lib.ListN.{length, take, take-append-drop}
use Rattle.std.proofs.Common.{Ok, Err}
use Rattle.field.proofs.Tests.{either}
use Rattle.droplet.specs.declared.card.Card.{Card}
use Rattle.droplet.specs.PoolCard.{weight_count, strand_bases}
use Rattle.droplet.specs.Questions.{card_refusal}
use Rattle.droplet.specs.declared.refusal.Refusal.{Refusal}
use Rattle.droplet.specs.declared.refusal.Refusal.TheVariants.{FileBuffer}
use Rattle.droplet.specs.Refusals.{refusal_number}
use Rattle.droplet.proofs.Conjunctions.{and-true}
use Rattle.droplet.proofs.LegalCard.{no_number}
use Rattle.droplet.proofs.Refusals.{refusal_of, refusal-back}
use Rattle.strand.specs.declared.writer.Run.{Run}
use Rattle.strand.specs.Writer.{RunEnd, run_end, writer_run, own_refusal, writer_refusal, refusal, write_answer, answered_progress, run_answer, run_text, WriterPromise}
use Rattle.strand.specs.WriterRuns.{AnswersRun}
use Rattle.strand.specs.Loops.{Ran}
use Rattle.strand.proofs.Runs.{run-facts}
use Rattle.strand.proofs.Lines.{text-length}

-- ---- the questions 5 to 8

-- what they leave where all say yes
pub record Room (c : Card) (degrees start wanted buffer numbers : ℕ) : Type 0 where
  pub starts : start ≡ 0 → ⊥
  pub lines : wanted * (strand_bases c + 1) ≤ buffer
  pub places : degrees ≤ numbers

pub roomy : {c : Card} {degrees start wanted buffer numbers : ℕ} (file : ℕ) → own_refusal c degrees file start wanted buffer numbers ≡ 0
    → Room c degrees start wanted buffer numbers
unfolding own_refusal
roomy {c} {degrees} {start} {wanted} {buffer} {numbers} file e =
    let few = leb wanted 1000000 && leb (wanted * (strand_bases c + 1)) buffer in
    elim (either (eqb start 0)) [
      | inl s ↦ elim (either (eqb file c.f)) [ inl f ↦ absurd (no_number (simp (s, f) at e)) | inr f ↦ absurd (no_number (simp (s, f) at e)) ]
      | inr s ↦
          elim (either (eqb file c.f)) [
            | inr f ↦ absurd (no_number (simp (s, f) at e))
            | inl f ↦
                elim (either few) [
                  | inr w ↦ absurd (no_number (simp (s, f, w) at e))
                  | inl w ↦
                      elim (either (leb degrees numbers)) [
                        | inr d ↦ absurd (no_number (simp (s, f, w, d) at e))
                        | inl d ↦
                            record {
                              starts = eqb-false start 0 s;
                              lines = leb-true _ buffer (and-true (leb wanted 1000000) _ w).1;
                              places = leb-true degrees numbers d;
                            }
                      ]
                ]
          ]
    ]

-- ---- the answers

-- a call that no question refuses has a card that none refuses
pub accepted-card : (c : Card) (ws : List ℕ) (file start wanted buffer numbers : ℕ) → writer_refusal c ws file start wanted buffer numbers ≡ 0
    → card_refusal c ws ≡ 0
unfolding writer_refusal
accepted-card c ws file start wanted buffer numbers e =
    elim (either (eqb (card_refusal c ws) 0)) [ inl t ↦ eqb-true (card_refusal c ws) 0 t | inr t ↦ rw t at e ]

-- after 2 to 4 and 27, only 5 to 8 are left
pub own : (c : Card) (ws : List ℕ) (file start wanted buffer numbers : ℕ) → card_refusal c ws ≡ 0
    → writer_refusal c ws file start wanted buffer numbers ≡ own_refusal c (weight_count ws) file start wanted buffer numbers
unfolding writer_refusal
own c ws file start wanted buffer numbers legal = rw (eq-eqb _ _ legal)

-- no refusal has the number 0
not-zero : (q : Refusal) → refusal_number q ≡ 0 → ⊥
not-zero q e =
    let same : q ≡ FileBuffer = sym (refusal-back q) ∙ ap refusal_of e in
    let apart : ◌≡◌ {A = ℕ} 28 0 = sym (ap refusal_number same) ∙ e in
    omega arith

module _ {c : Card} {ws file : List ℕ} {start wanted budget : ℕ} {out list : List ℕ} where
  module _ {q : Refusal} where
    refused : writer_refusal c ws (length file) start wanted (length out) (length list) ≡ refusal_number q
        → WriterPromise c ws file start wanted budget out list (Err q) out list
    refused e =
        let no = ne_eqb _ _ (not-zero q) in
        record { says = rw (e, no); leaves = record { prints = rw (e, no); keeps = refl; untouched = λ _. refl } }

    pub card-refused : card_refusal c ws ≡ refusal_number q → WriterPromise c ws file start wanted budget out list (Err q) out list
    unfolding writer_refusal
    card-refused e = refused (rw (e, ne_eqb _ _ (not-zero q)))

    pub own-refused : card_refusal c ws ≡ 0
        → own_refusal c (weight_count ws) (length file) start wanted (length out) (length list) ≡ refusal_number q
        → WriterPromise c ws file start wanted budget out list (Err q) out list
    own-refused legal e = refused (own c ws (length file) start wanted _ _ legal ∙ e)

  module _ (legal : card_refusal c ws ≡ 0) where
    pub answered : {run : Run} {out' list' : List ℕ} → 0 ≡ own_refusal c (weight_count ws) (length file) start wanted (length out) (length list)
        → Ran c ws file start wanted budget run out list out' list'
        → WriterPromise c ws file start wanted budget out list (Ok run) out' list'
    answered {run} {out'} e ran =
        let yes : eqb (writer_refusal c ws (length file) start wanted (length out) (length list)) 0 ≡ true = eq-eqb _ _ (own c ws (length file) start wanted _ _ legal ∙ sym e) in
        let n = text-length c ws file start wanted budget _ _ ran.ends in
        record {
          says = rw (yes, ran.ends);
          leaves = record {
            prints =
                rw (yes, ran.ends, n)
                (sym (take-append-drop (run.made * (strand_bases c + 1)) out') ∙ ap (◌++◌ (take (run.made * (strand_bases c + 1)) out')) ran.rest);
            keeps = ran.keeps;
            untouched = λ no. absurd (let z : ◌≡◌ {A = ℕ} 0 1 = cc in let f : ⊥ = omega arith in f);
          };
        }

-- ---- what an answer says of its run

module _ (c : Card) (ws file : List ℕ) (start wanted budget : ℕ) (run : Run) where
  -- the end of a run, at the numbers that were answered
  answered-end : (w : RunEnd) → writer_run c ws file start wanted budget ≡ w → write_answer (Ok run) ≡ run_answer w
      → writer_run c ws file start wanted budget
      ≡ run_end run.stop (answered_progress run (run_text w))
  answered-end (run_end stop p) e says =
      let s : run.stop ≡ stop = cc in
      let m : run.made ≡ p.made = cc in
      let t : run.tried ≡ p.tried = cc in
      let n : run.next ≡ p.next = cc in
      let r : run.dropped_run ≡ p.dropped_run = cc in
      let g : run.dropped_gc ≡ p.dropped_gc = cc in
      rw (s, m, t, n, r, g) e

pub answers-run : AnswersRun
answers-run c ws file start wanted budget out list run out' list' p =
    let no = writer_refusal c ws (length file) start wanted (length out) (length list) in
    let w = writer_run c ws file start wanted budget in
    elim (either (eqb no 0)) [
      | inl t ↦
          let says : write_answer (Ok run) ≡ run_answer w = rw t at p.says in
          let ends = answered-end c ws file start wanted budget run w refl says in
          record {
            unrefused = eqb-true no 0 t;
            text = run_text w;
            ends = ends;
            facts = run-facts c ws file start wanted budget _ _ ends;
            prints = rw t at p.leaves.prints;
          }
      | inr t ↦
          let says : write_answer (Ok run) ≡ refusal no = rw t at p.says in
          let apart : ◌≡◌ {A = ℕ} 0 1 = cc in
          absurd (let z : ⊥ = omega arith in z)
    ]
