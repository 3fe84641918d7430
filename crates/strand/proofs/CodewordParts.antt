-- A codeword of a strand's length is the word of its own seed and payload. Assumes nothing.
use mathlib.Core.Path.{◌≡◌, sym, ap, ◌∙◌, subst}
use mathlib.Core.List.{List, ◌++◌, append_assoc}
use Prim.Native.Nat.{ℕ, ◌^◌, ◌<◌, ◌≤◌}
use native.Mathlib.Omega.{arith}
use lib.ListN.{length, take, drop, take-append-drop, length-drop}
use lib.Seq.{length-take-le}
use Rattle.field.specs.Bytes.{IsByte, AllBytes, to_big_endian}
use Rattle.field.specs.CheckBytes.{Vanishes}
use Rattle.field.proofs.BigEndian.{four-back}
use Rattle.field.proofs.ByteLists.{all_take, all_drop}
use Rattle.field.proofs.Unique.{parity-only}
use Rattle.droplet.specs.declared.card.Card.{Card}
use Rattle.droplet.specs.PoolCard.{strand_bytes}
use Rattle.strand.specs.ReadCheck.{word_seed, word_payload, strand_word}
use Rattle.strand.proofs.StrandWords.{message-bytes}

pub payload-size : (c : Card) (word : List ℕ) → length word ≡ strand_bytes c → length (word_payload c word) ≡ c.l
unfolding strand_bytes
payload-size c word size = length-take-le c.l (drop 4 word) (rw length-drop (omega arith))

module _ (c : Card) (few : c.r ≤ 4) (word : List ℕ) (size : length word ≡ strand_bytes c) (bytes : AllBytes word) where
  front-size : length (take 4 word) ≡ 4
  unfolding strand_bytes
  front-size = length-take-le 4 word (omega arith)

  pub seed-lt : word_seed word < 2 ^ 32
  seed-lt = (four-back (take 4 word) front-size (all_take IsByte 4 word bytes)).1

  pub payload-bytes : AllBytes (word_payload c word)
  payload-bytes = all_take IsByte c.l (drop 4 word) (all_drop IsByte 4 word bytes)

  checks : List ℕ
  checks = drop c.l (drop 4 word)

  message : List ℕ
  message = to_big_endian (word_seed word) ++ word_payload c word

  word-parts : word ≡ message ++ checks
  unfolding message checks
  word-parts =
      rw ((four-back (take 4 word) front-size (all_take IsByte 4 word bytes)).0, append_assoc (take 4 word) (word_payload c word) (drop c.l (drop 4 word)), take-append-drop c.l (drop 4 word))
      (sym (take-append-drop 4 word))

  checks-size : length checks ≡ c.r
  unfolding checks strand_bytes
  checks-size = simp length-drop (omega arith)

  pub word-strand : Vanishes c.r word → word ≡ strand_word c (word_seed word) (word_payload c word)
  unfolding strand_word message checks
  word-strand vanishes =
      word-parts
      ∙ ap (λ (l : List ℕ). message ++ l)
      ((parity-only c.r message checks few (message-bytes c (word_seed word) (word_payload c word) payload-bytes)
      (all_drop IsByte c.l (drop 4 word) (all_drop IsByte 4 word bytes)) checks-size).0
      (subst (Vanishes c.r) word-parts vanishes))
