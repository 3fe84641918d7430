-- From file to vault and back: the claim about every file, every list of store calls whose clean legal reads are its strands, and every
-- restore, under one accepted card. Assumes nothing.
use Rattle.droplet.specs.PoolCard.{card_weights}
use Rattle.droplet.proofs.CardAnswers.{reading-accepted}
use Rattle.vault.specs.Vault.{store_after, FromFileToVault}
use Rattle.decoder.proofs.StoreChain.{chain-exists}
use Rattle.vault.proofs.PrintedReads.{printed-legal}
use Rattle.vault.proofs.OfferedReads.{further_reads}
use Rattle.vault.proofs.FileReads.{clean_records, clean-gives, jobs, clean_jobs, store_ours, droplets-among}
use Rattle.vault.proofs.NeverRefused15.{clean_never_15, never_15}
use Rattle.vault.proofs.CustomersFile.{interleaves, interleaved, original_back}
use Rattle.vault.proofs.RightSheets.{right-sheet, more_droplets, same_droplets}

pub from-file-to-vault : FromFileToVault
from-file-to-vault card c D e =
    let weights = card_weights card in
    let fine = (reading-accepted card c D e).unrefused in
    record {
      interleaves = interleaves c weights fine;
      interleaved = interleaved c weights fine;
      calls = λ lent reads. chain-exists c weights reads lent 0;
      jobs = jobs c weights fine;
      clean_jobs = clean_jobs c weights fine;
      legal = λ file strand bytes. printed-legal c weights file bytes strand;
      clean_records = clean_records c weights fine;
      clean_back = λ file lent calls store size bytes chained printed own.
          right-sheet c weights fine file store size (clean-gives c weights fine file lent calls store bytes chained printed own);
      clean_never_15 = clean_never_15 c weights fine;
      never_15 = never_15 c weights fine;
      store = store_ours c weights fine;
      back = λ file lent calls job. right-sheet c weights fine file (store_after lent calls) job.size (store_ours c weights fine file lent calls job);
      original_back = λ original file lent calls from job r file' marks' sheet all. original_back c weights fine original file from file'
          ((right-sheet c weights fine file (store_after lent calls) job.size (store_ours c weights fine file lent calls job) r file' marks' sheet).whole all);
      more_reads = λ file lent lent' calls calls' job job' fits among. more_droplets c weights fine (store_after lent calls) (store_after lent' calls')
          (droplets-among c weights fine file lent lent' calls calls' job job' fits among);
      further_reads = further_reads c weights;
      any_order = λ file lent lent' calls calls' job job' fits fits' there back. same_droplets c weights fine (store_after lent calls) (store_after lent' calls')
          (droplets-among c weights fine file lent lent' calls calls' job job' fits' there)
          (droplets-among c weights fine file lent' lent calls' calls job' job fits back);
      more_droplets = more_droplets c weights fine;
      same_droplets = same_droplets c weights fine;
    }
