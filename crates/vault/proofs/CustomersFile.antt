-- The first step and the last one of the vault theorem: the customer's file is dealt, and what was restored of it with all present is
-- undealt. Assumes nothing.
use mathlib.Core.Path.{◌≡◌, refl, ap, ◌∙◌}
use mathlib.Core.Bool.{false}
use mathlib.Core.List.{List, ◌++◌}
use Prim.Native.Nat.{ℕ}
use native.Mathlib.Omega.{arith}
use lib.ListN.{length, take, drop}
use lib.Seq.{take_at, take_all}
use Rattle.field.specs.Bytes.{AllBytes}
use Rattle.droplet.specs.declared.card.Card.{Card}
use Rattle.droplet.specs.Questions.{card_refusal}
use Rattle.std.proofs.Common.{Ok}
use Rattle.interleave.specs.InterleaveCalls.{done, reorder_answer, file_reordered}
use Rattle.interleave.proofs.ReorderAnswers.{moved, goes_through}
use Rattle.interleave.proofs.InterleaveRoundTrip.{file-bytes, written, written-length, calls-give-back}
use Rattle.vault.specs.Vault.{InterleavedFrom, OriginalBack}

module _ (c : Card) (ws : List ℕ) (fine : card_refusal c ws ≡ 0) where
  -- a call of which source and target are the file itself
  pub interleaves : (original : List ℕ) → length original ≡ c.f → AllBytes original → (file : List ℕ) × InterleavedFrom c ws original file
  interleaves original size bytes =
      let after = file_reordered false c (take c.f original) ++ drop c.f original in (
        take c.f after,
        record {
          size = size;
          bytes = bytes;
          target = original;
          space = omega (arith, size);
          answer = Ok tt;
          target' = after;
          promise = moved false c ws original original fine (omega (arith, size)) (omega (arith, size)) after refl;
          handed = refl;
        },
      )

  module _ (original file : List ℕ) (from : InterleavedFrom c ws original file) where
    all-of-it : take c.f original ≡ original
    all-of-it = take_all c.f original (omega (arith, from.size))

    first_done : reorder_answer from.answer ≡ done
    first_done =
        (goes_through false c ws original from.target fine (omega (arith, from.size)) from.space from.answer from.target' from.promise).0

    pub interleaved : (reorder_answer from.answer ≡ done) × (length file ≡ c.f) × AllBytes file
    interleaved =
        let e = first_done in
        let bytes = file-bytes c ws fine false (take c.f original) (rw all-of-it from.bytes) in (
          e,
          ap length from.handed ∙ written-length false c ws original from.target from.answer from.target' from.promise e,
          rw (from.handed, written false c ws original from.target from.answer from.target' from.promise e) bytes,
        )

    -- what was restored starts with the file that the writer was handed
    pub original_back : (file' : List ℕ) → take c.f file' ≡ file → OriginalBack c ws original file'
    original_back file' same buffer answer buffer' promise space =
        let back = calls-give-back false c ws original from.target from.answer from.target' from.promise first_done file' buffer answer
        buffer' promise (same ∙ from.handed) space in
        (back.says, ap (take c.f) (back.leaves ∙ rw all-of-it) ∙ take_at original (drop c.f buffer) c.f from.size)
