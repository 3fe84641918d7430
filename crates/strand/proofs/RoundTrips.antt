-- Every strand that the writer writes is accepted by the read check under the same card, with its seed and payload. Assumes nothing.
use mathlib.Core.Logic.{inl, inr}
use Prim.Native.Nat.{zero, suc}
use Rattle.field.specs.Generator.{seed_after, seeds_from}
use Rattle.field.proofs.Tests.{either}
use Rattle.field.proofs.Schedule.{step-seed}
use Rattle.droplet.specs.PoolCard.{segment_count}
use Rattle.droplet.specs.Droplet.{segments_of}
use Rattle.droplet.proofs.Payload.{payload-length, payload-bytes}
use Rattle.screen.specs.Screen.{screen_passes}
use Rattle.strand.specs.Writer.{seed_word}
use Rattle.strand.specs.WriterRuns.{seeds_with}
use Rattle.strand.specs.RoundTrip.{StrandsReadBack, RunsReadBack}
use Rattle.strand.proofs.NearReads.{clean-accepted}

pub strands-read-back : StrandsReadBack
unfolding seed_word
strands-read-back c ws file seed legal bytes s p =
    let set = segments_of ws (segment_count c) seed in
    clean-accepted c ws seed _ (record {
      card = legal;
      nonzero = s.0;
      fits = s.1;
      size = payload-length c.l file set;
      bytes = payload-bytes c.l file set bytes;
      screened = p;
    })

pub runs-read-back : RunsReadBack
unfolding seeds_with seeds_from screen_passes
runs-read-back c ws file start zero legal bytes s = tt
runs-read-back c ws file start (suc t) legal bytes s =
    let rest = runs-read-back c ws file (seed_after start) t legal bytes (step-seed start s) in
    elim (either (screen_passes c (seed_word c ws file start))) [
      | inl p ↦ rw p (strands-read-back c ws file start legal bytes s p, rest)
      | inr p ↦ rw p rest
    ]
