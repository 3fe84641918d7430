-- A read check that answers a droplet answers a seed of four bytes and a payload of L bytes. Assumes nothing.
use mathlib.Core.Path.{◌≡◌, refl}
use mathlib.Core.List.{List}
use Prim.Native.Nat.{ℕ}
use Rattle.droplet.specs.declared.card.Card.{Card}
use Rattle.strand.specs.ReadCheck.{Reading, droplet, refused, read_check}
use Rattle.strand.proofs.LegalStrands.{accepts-exactly}
use Rattle.decoder.specs.Store.{LegalRead, droplet_read}
use Rattle.decoder.proofs.RecordBytes.{IsRead}

-- what holds of a reading that is a droplet
abbrev pub InReading : (LegalRead → Type 0) → Reading → Type 0
InReading P (droplet s p k) = P (droplet_read s p k)
InReading P (refused n) = Unit {0}

-- a droplet that a record of L payload bytes can hold, or a refusal
abbrev pub Recordable : ℕ → Reading → Type 0
Recordable L = InReading (IsRead L)

module _ (c : Card) (weights read : List ℕ) where
  reading-recordable : (o : Reading) → read_check c weights read ≡ o → Recordable c.l o
  reading-recordable (droplet s p k) e =
      let strand = ((accepts-exactly c weights read s p k).0 e).strand in record { seed_fits = strand.fits; size = strand.size }
  reading-recordable (refused n) e = tt

  pub read-recordable : Recordable c.l (read_check c weights read)
  read-recordable = reading-recordable (read_check c weights read) refl
