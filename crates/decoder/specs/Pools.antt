-- What the contracts of the restorer's `Pool` cite. No sentence of document 01 stands here. Assumes nothing.
use Rattle.std.specs.Prelude.{◌≡◌, List, map, ℕ, ◌+◌, ◌*◌, ◌≤◌, length, drop}
use Rattle.droplet.specs.PoolCard.{weight_count}
use Rattle.droplet.specs.Droplet.{degree_of, segments_of}
use Rattle.decoder.specs.declared.restorer.Pool.{Pool}
use Rattle.decoder.specs.declared.restorer.Drawn.{Drawn}
use Rattle.decoder.specs.declared.restorer.Peeling.{Peeling}
use Rattle.decoder.specs.declared.restorer.Sheet.{Sheet}
use Rattle.decoder.specs.Store.{Record}
use Rattle.decoder.specs.Restorer.{Droplet, State, present, Peeled, peeled, peeled_state, restored, sheet_of}
use Rattle.decoder.specs.Loops.{records_in, Looked}

-- the droplet of a record of a pool, and those of records that stand one after the other
unfoldable pub droplet_of : Pool → Record → Droplet
droplet_of p r = record { segments = segments_of p.weights.now p.plan.segments r.read.seed; payload = r.read.payload }

unfoldable pub droplets_in : Pool → List ℕ → List Droplet
droplets_in p bytes = map (droplet_of p) (records_in p.l bytes)

-- the same of the set that a seed picks, with its degree
pub record Seen (p : Pool) (seed : ℕ) (marks before after : List ℕ) (r : Drawn) : Type 0 where
  pub degree : r.degree ≡ degree_of p.weights.now seed
  pub looked : Looked (segments_of p.weights.now p.plan.segments seed) marks r.degree before after r.unmarked

-- buffers for the segments of a pool and their marks, and a list with a place for each degree
pub record Room (p : Pool) (file marks list : List ℕ) : Type 0 where
  pub file_fits : p.plan.segments * p.l ≤ length file
  pub marks_fit : p.plan.segments ≤ length marks
  pub places : weight_count p.weights.now ≤ length list

-- file and marks have become a state with n more of the segments present, and the number list changed in its first places alone
pub record Filled (p : Pool) (end : State) (marks list file' marks' list' : List ℕ) (n : ℕ) : Type 0 where
  pub state : record { file = file'; marks = marks' } ≡ end
  pub count : present p.plan.segments marks' ≡ present p.plan.segments marks + n
  pub rest : drop (weight_count p.weights.now) list' ≡ drop (weight_count p.weights.now) list

-- the passes have ended, with this many segments present
pub record Ended (p : Pool) (end : Peeled) (list file' marks' list' : List ℕ) (r : Peeling) : Type 0 where
  pub state : peeled r.passes (record { file = file'; marks = marks' }) ≡ end
  pub count : r.present ≡ present p.plan.segments marks'
  pub rest : drop (weight_count p.weights.now) list' ≡ drop (weight_count p.weights.now) list

-- the sheet of the passes' end
pub record MadeSheet (p : Pool) (ds : List Droplet) (end : Peeled) (list file' marks' list' : List ℕ) (r : Sheet) : Type 0 where
  pub sheet : restored r.present r.passes r.contradictions ≡ sheet_of p.plan.segments p.l ds end
  pub state : record { file = file'; marks = marks' } ≡ peeled_state end
  pub rest : drop (weight_count p.weights.now) list' ≡ drop (weight_count p.weights.now) list
