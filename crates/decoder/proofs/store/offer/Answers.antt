-- `offer` meets its contract: the droplet in the read check's answer goes to the store, or its refusal is handed on. Assumes nothing.
use Rattle.std.proofs.Common.{◌≡◌, ℕ, List, Result, Ok, Err, length, take, refl}
use Rattle.droplet.specs.declared.card.Card.{Card}
use Rattle.droplet.specs.declared.refusal.Refusal.{Refusal}
use Rattle.droplet.specs.Refusals.{refusal_number}
use Rattle.droplet.proofs.Refusals.{handed_on}
use Rattle.strand.specs.declared.read_check.ReadDroplet.{ReadDroplet}
use Rattle.strand.specs.Loops.{InRange}
use Rattle.strand.specs.ReadCheck.{Reading, refused, letters_reading, Answers}
use Rattle.strand.proofs.LetThrough.{letters-payload}
use Rattle.strand.proofs.ReadAnswers.{Accepts, accepts, refuses}
use Rattle.decoder.specs.declared.store.StoreAnswer.{StoreAnswer}
use Rattle.decoder.specs.Store.{store_record, droplet_read, store_reading}
use Rattle.decoder.specs.StoreLoops.{Keeps}
use Rattle.decoder.proofs.store.offer.Goals as goal

refused-too : (L : ℕ) (buffer : List ℕ) (count : ℕ) (reading : Reading) (q : Refusal) → reading ≡ refused (refusal_number q)
    → Keeps (store_reading L buffer count reading) (Err q) buffer
unfolding store_reading
refused-too L buffer count reading q e = rw e (record { says = refl; leaves = refl })

-- the answer holds a droplet
module _ (card : Card) (read : List ℕ) (range : InRange card) (r : Result ReadDroplet Refusal) (answers : Answers (letters_reading card read) r)
    (d : ReadDroplet) (is : r ≡ Ok d) where
  legal : Accepts card.l (letters_reading card read) d.seed d.payload d.corrected
  legal = accepts _ _ _ answers (λ s p k e. letters-payload _ _ s p k e range) d is

  -- of its payload array the first L bytes are lent
  size : length (take card.l d.payload) ≡ card.l
  size = rw legal.first legal.size

  -- it goes to the store with the number of bytes corrected
  stored : (buffer : List ℕ) (count : ℕ) (a : Result StoreAnswer Refusal) (after : List ℕ)
      → Keeps (store_record (length (take card.l d.payload)) buffer count (droplet_read d.seed (take card.l d.payload) d.corrected)) a after
      → Keeps (store_reading card.l buffer count (letters_reading card read)) a after
  unfolding store_reading
  stored buffer count a after k = rw (legal.accepted, ← legal.first) (rw size at k)

pub returns-in_err-droplet : goal.returns-in_err-droplet
returns-in_err-droplet c =
    rw (handed_on _ _ c.from_residual.ensures.1)
    (refused-too _ _ _ _ _ (refuses c.args.card.l _ _ c.check_strand.ensures _ c.in_err-droplet.was))

pub store_legal-requires : goal.store_legal-requires
store_legal-requires c = rw (c.from-l.ensures, size _ _ c.requires.1 _ c.check_strand.ensures _ c.in_ok-droplet.was) c.requires.0

pub returns : goal.returns
returns c = stored _ _ c.requires.1 _ c.check_strand.ensures _ c.in_ok-droplet.was _ _ _ _ (rw c.from-l.ensures at c.store_legal.ensures)
