-- `check_length` meets its contract: a strand's length in bases is four times that in bytes. Assumes nothing.
use mathlib.Core.Path.{◌≡◌, sym, ◌∙◌}
use Prim.Native.Nat.{ℕ, ◌*◌}
use native.Mathlib.Omega.{arith}
use lib.Seq.{length-take-le}
use Rattle.droplet.specs.declared.card.Card.{Card}
use Rattle.droplet.specs.declared.card.Bytes.{Bytes}
use Rattle.droplet.specs.PoolCard.{strand_bytes, bytes_of}
use Rattle.strand.proofs.ReadingCases.{strand-fits, case-9}
use Rattle.strand.proofs.Tests.{differs, equals}
use Rattle.strand.proofs.read_check.check_length.Goals as goal

-- the word's length, by the read's
sized : (card : Card) (read : ℕ) {size : Bytes} → read ≡ strand_bytes card * 4 → size ≡ bytes_of (record { 0 = read }) → size.0 ≡ strand_bytes card
unfolding bytes_of
sized card read long bytes = rw bytes (omega (arith, long))

pub returns-then-ne : goal.returns-then-ne
returns-then-ne c =
    let other = differs _ _ c.ne.ensures c.if-ne.true in
    record { says = rw (case-9 c.args.card c.args.read.now (λ e. other (e ∙ sym c.strand_bases.ensures.0))) }

pub slice_bounds-check_letters-end : goal.slice_bounds-check_letters-end
slice_bounds-check_letters-end c =
    let n = equals _ _ c.ne.ensures c.if-ne.false ∙ c.strand_bases.ensures.0 in
    let size = sized c.args.card _ n c.to_bytes-size.ensures in
    omega (arith, size, (strand-fits c.args.card c.requires.0).1, c.requires.1)

pub slice_bounds-check_letters-end-2 : goal.slice_bounds-check_letters-end-2
slice_bounds-check_letters-end-2 c =
    let n = equals _ _ c.ne.ensures c.if-ne.false ∙ c.strand_bases.ensures.0 in
    let size = sized c.args.card _ n c.to_bytes-size.ensures in
    sym (length-take-le _ _ (omega (arith, size, (strand-fits c.args.card c.requires.0).1, c.requires.1)))

pub check_letters-requires : goal.check_letters-requires
check_letters-requires c =
    let n = equals _ _ c.ne.ensures c.if-ne.false ∙ c.strand_bases.ensures.0 in
    let size = sized c.args.card _ n c.to_bytes-size.ensures in
    let long = length-take-le c.to_bytes-size.result.0 c.args.buffer.now (omega (arith, size, (strand-fits c.args.card c.requires.0).1, c.requires.1)) in
    (record { card = c.requires.0; long = long ∙ size }, omega (arith, long, size, n))
