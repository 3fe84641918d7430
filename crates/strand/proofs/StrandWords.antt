-- The word of a strand: its length, in bases too, that it consists of bytes, and its parts. Assumes nothing.
use mathlib.Core.Path.{◌≡◌, ap₂, ◌∙◌}
use mathlib.Core.List.{List, ◌++◌, append_assoc}
use Prim.Native.Nat.{ℕ, ◌+◌, ◌*◌, ◌^◌, ◌<◌}
use lib.ListN.{length, length-append}
use lib.Seq.{take_at, drop_at}
use Rattle.field.specs.Bytes.{IsByte, AllBytes, to_big_endian}
use Rattle.field.specs.CheckBytes.{parity}
use Rattle.field.proofs.BigEndian.{to-from, to-length, to-bytes}
use Rattle.field.proofs.ByteLists.{all_append}
use Rattle.field.proofs.Parity.{parity-length, parity-bytes}
use Rattle.droplet.specs.declared.card.Card.{Card}
use Rattle.droplet.specs.declared.card.Bases.{Bases}
use Rattle.droplet.specs.declared.card.Bytes.{Bytes}
use Rattle.droplet.specs.PoolCard.{strand_bytes, bases_of}
use Rattle.strand.specs.ReadCheck.{word_seed, word_payload, strand_word}

-- a strand's length in bases, by the one conversion
pub strand-in-bases : (c : Card) {b : Bytes} {n : Bases} → b ≡ record { 0 = strand_bytes c } → n ≡ bases_of b → n.0 ≡ strand_bytes c * 4
unfolding bases_of
strand-in-bases c strand bases = rw (bases, strand)

module _ (c : Card) (seed : ℕ) (p : List ℕ) where
  message-length : length p ≡ c.l → length (to_big_endian seed ++ p) ≡ 4 + c.l
  message-length e = length-append (to_big_endian seed) p ∙ ap₂ ◌+◌ (to-length seed) e

  pub message-bytes : AllBytes p → AllBytes (to_big_endian seed ++ p)
  message-bytes = all_append IsByte (to_big_endian seed) p (to-bytes seed)

  pub strand-length : length p ≡ c.l → length (strand_word c seed p) ≡ strand_bytes c
  unfolding strand_word strand_bytes
  strand-length e =
      length-append (to_big_endian seed ++ p) _ ∙ ap₂ ◌+◌ (message-length e) (parity-length c.r (to_big_endian seed ++ p))

  pub strand-bytes : AllBytes p → AllBytes (strand_word c seed p)
  unfolding strand_word
  strand-bytes h =
      all_append IsByte (to_big_endian seed ++ p) _ (message-bytes h) (parity-bytes c.r (to_big_endian seed ++ p) (message-bytes h))

  rest : List ℕ
  rest = p ++ parity c.r (to_big_endian seed ++ p)

  in_parts : strand_word c seed p ≡ to_big_endian seed ++ rest
  unfolding strand_word rest
  in_parts = append_assoc (to_big_endian seed) p _

  pub strand-seed : seed < 2 ^ 32 → word_seed (strand_word c seed p) ≡ seed
  strand-seed h = rw (in_parts, take_at (to_big_endian seed) rest 4 (to-length seed)) (to-from seed h)

  pub strand-payload : length p ≡ c.l → word_payload c (strand_word c seed p) ≡ p
  unfolding rest
  strand-payload e = rw (in_parts, drop_at (to_big_endian seed) rest 4 (to-length seed)) (take_at p _ c.l e)
