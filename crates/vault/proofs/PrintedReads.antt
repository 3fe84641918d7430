-- Every strand that the writer prints for a file is a legal read, of its seed and of the file's payload for it, and so is every read near to
-- it. Assumes nothing.
use mathlib.Core.Path.{◌≡◌, ap, ◌∙◌}
use mathlib.Core.List.{List}
use Prim.Native.Nat.{ℕ}
use Rattle.field.specs.Bytes.{AllBytes}
use Rattle.droplet.specs.declared.card.Card.{Card}
use Rattle.strand.specs.ReadCheck.{droplet, read_check}
use Rattle.strand.specs.LegalStrand.{bytes_apart, NearStrand}
use Rattle.strand.proofs.NearReads.{near-accepted}
use Rattle.strand.proofs.PrintedRuns.{seed_of, line_read}
use Rattle.strand.specs.Writer.{payload_for}
use Rattle.vault.specs.Vault.{PrintedStrand}

module _ (c : Card) (ws file : List ℕ) (bytes : AllBytes file) (strand : List ℕ) where
  pub printed-legal : PrintedStrand c ws file strand → (s : ℕ) × (read_check c ws strand ≡ droplet s (payload_for c ws file s) 0)
      × ((read : List ℕ) → NearStrand c strand read → read_check c ws read ≡ droplet s (payload_for c ws file s) (bytes_apart strand read))
  printed-legal p =
      let s = seed_of c ws file p.by p.line in
      let clean = ap (read_check c ws) p.letters ∙ line_read c ws file p.by p.line p.made bytes in
      (s, clean, λ read near. near-accepted c ws strand read s (payload_for c ws file s) clean near)
