-- `check_into` meets its contract: the read check's refusal is handed on, its droplet handed over. Assumes nothing.
use mathlib.Core.Path.{◌∙◌}
use Rattle.droplet.proofs.Refusals.{handed_on}
use Rattle.strand.proofs.CAnswers.{refusal-handed, narrow, droplet-handed}
use Rattle.strand.proofs.c_form.check_into.Goals as goal

pub returns-in_err-droplet : goal.returns-in_err-droplet
returns-in_err-droplet c = rw (handed_on _ _ c.from_residual.ensures.1) (refusal-handed _ _ _ _ c.check_read.ensures _ _ c.in_err-droplet.was)

pub hand_over-requires : goal.hand_over-requires
hand_over-requires c = narrow _ _ _ _ c.check_read.ensures _ c.in_ok-droplet.was

pub returns : goal.returns
returns c = c.hand_over.ensures ∙ droplet-handed _ _ _ _ c.check_read.ensures _ c.in_ok-droplet.was _
