-- The legal ones of a list of reads: what holds of each, where each comes from, and the seeds they have. Assumes nothing.
use mathlib.Core.Path.{◌≡◌, refl, sym, ap, ◌∙◌, subst}
use mathlib.Core.Bool.{Bool, true, false≢true}
use mathlib.Core.List.{List, [], ◌∷◌, ◌++◌, append_assoc}
use mathlib.Core.Logic.{inl, inr}
use Prim.Native.Nat.{ℕ}
use borrow.Author.Tests.{eqb-true}
use lib.Dec.{eqb}
use Rattle.field.specs.Bytes.{All}
use Rattle.field.proofs.Tests.{either}
use Rattle.droplet.specs.declared.card.Card.{Card}
use Rattle.droplet.specs.Droplet.{member}
use Rattle.droplet.proofs.Sets.{member-append}
use Rattle.strand.specs.ReadCheck.{Reading, droplet, refused, read_check}
use Rattle.decoder.specs.Store.{LegalRead, Stored, store_answer, droplet_read}
use Rattle.decoder.specs.Demand3.{kept_reading, legal_reads, first_seeds, seeds_of, Call, reads_of, reads_with}
use Rattle.decoder.specs.Among.{Among, AllAmong}
use Rattle.vault.specs.Vault.{legal_of, legal_seeds}
use Rattle.decoder.proofs.AllOf.{among-mapped}
use Rattle.decoder.proofs.LegalRead.{InReading}
use Rattle.decoder.proofs.SeedLists.{there}

kept-all : (P : LegalRead → Type 0) (o : Reading) (rest : List LegalRead) → InReading P o → All P rest → All P (kept_reading o rest)
kept-all P (refused n) rest h t = t
kept-all P (droplet s p k) rest h t = (h, t)

kept-front : (P : LegalRead → Type 0) (o : Reading) (rest : List LegalRead) → All P (kept_reading o rest) → InReading P o
kept-front P (refused n) rest h = tt
kept-front P (droplet s p k) rest h = h.0

kept-past : (P : LegalRead → Type 0) (o : Reading) (rest : List LegalRead) → All P (kept_reading o rest) → All P rest
kept-past P (refused n) rest h = h
kept-past P (droplet s p k) rest h = h.1

kept-rest : (o : Reading) (rest : List LegalRead) (x : LegalRead) → Among x rest → Among x (kept_reading o rest)
kept-rest (refused n) rest x a = a
kept-rest (droplet s p k) rest x a = inr a

kept-own : (o : Reading) (rest : List LegalRead) (s : ℕ) (p : List ℕ) (k : ℕ) → o ≡ droplet s p k → Among (droplet_read s p k) (kept_reading o rest)
kept-own o rest s p k e = subst (λ (x : Reading). Among (droplet_read s p k) (kept_reading x rest)) (sym e) (inl refl)

kept-among : (o : Reading) (rest rest' : List LegalRead) → AllAmong rest rest' → AllAmong (kept_reading o rest) (kept_reading o rest')
kept-among (refused n) rest rest' f x a = f x a
kept-among (droplet s p k) rest rest' f x (inl q) = inl q
kept-among (droplet s p k) rest rest' f x (inr a) = inr (f x a)

module _ (c : Card) (ws : List ℕ) where
  pub legal-all : (P : LegalRead → Type 0) (reads : List (List ℕ)) → All (λ read. InReading P (read_check c ws read)) reads → All P (legal_reads c ws reads)
  unfolding legal_reads
  legal-all P [] h = tt
  legal-all P (r ∷ rs) h = kept-all P (read_check c ws r) (legal_reads c ws rs) h.0 (legal-all P rs h.1)

  -- of the calls whose answers pass a test
  module _ (test : Stored → Bool) where
    pub with_all : (P : LegalRead → Type 0) (calls : List Call) → All P (legal_of c ws calls) → All P (reads_with test c ws calls)
    unfolding legal_reads reads_with
    with_all P [] h = tt
    with_all P (k ∷ ks) h =
        let o = read_check c ws k.read in
        let rest = with_all P ks (kept-past P o (legal_of c ws ks) h) in
        elim (either (test (store_answer k.answer))) [
          | inl e ↦ rw e (kept-all P o (reads_with test c ws ks) (kept-front P o (legal_of c ws ks) h) rest)
          | inr e ↦ rw e rest
        ]

    pub with-there : (calls : List Call) (k : Call) (s : ℕ) (p : List ℕ) (n : ℕ) → Among k calls → test (store_answer k.answer) ≡ true
        → read_check c ws k.read ≡ droplet s p n → Among (droplet_read s p n) (reads_with test c ws calls)
    unfolding reads_with
    with-there [] k s p n a pass e = absurd a
    with-there (x ∷ ks) k s p n (inl q) pass e =
        let here : test (store_answer x.answer) ≡ true = ap (λ (y : Call). test (store_answer y.answer)) (sym q) ∙ pass in
        rw here (kept-own (read_check c ws x.read) (reads_with test c ws ks) s p n (ap (λ (y : Call). read_check c ws y.read) (sym q) ∙ e))
    with-there (x ∷ ks) k s p n (inr a) pass e =
        let rest = with-there ks k s p n a pass e in
        elim (either (test (store_answer x.answer))) [
          | inl t ↦ rw t (kept-rest (read_check c ws x.read) (reads_with test c ws ks) _ rest)
          | inr t ↦ rw t rest
        ]

  further : (reads more : List (List ℕ)) → AllAmong (legal_reads c ws reads) (legal_reads c ws (reads ++ more))
  unfolding legal_reads
  further [] more x a = absurd a
  further (r ∷ rs) more x a = kept-among (read_check c ws r) (legal_reads c ws rs) (legal_reads c ws (rs ++ more)) (further rs more) x a

  pub further_reads : (calls calls' : List Call) (more : List (List ℕ)) → reads_of calls' ≡ reads_of calls ++ more
      → AllAmong (legal_of c ws calls) (legal_of c ws calls') × AllAmong (legal_seeds c ws calls) (legal_seeds c ws calls')
  further_reads calls calls' more e =
      let all : AllAmong (legal_of c ws calls) (legal_of c ws calls')
      = λ x a. subst (λ reads. Among x (legal_reads c ws reads)) (sym e) (further (reads_of calls) more x a) in
      (all, among-mapped (λ (r : LegalRead). r.seed) (legal_of c ws calls) (legal_of c ws calls') (λ x a. (x, all x a, refl)))

-- ---- the seeds

-- a record of a seed
pub with-seed : (s : ℕ) (rs : List LegalRead) → member s (seeds_of rs) ≡ true → (r : LegalRead) × Among r rs × (r.seed ≡ s)
unfolding member
with-seed s [] h = absurd (false≢true h)
with-seed s (r ∷ rs) h =
    elim (either (eqb r.seed s)) [
      | inl e ↦ (r, inl refl, eqb-true r.seed s e)
      | inr e ↦ let rest = with-seed s rs (rw e at h) in (rest.0, inr rest.1, rest.2)
    ]

-- each seed of some reads is among their first ones, or was seen before
pub first-has : (s : ℕ) (seen : List ℕ) (rs : List LegalRead) → Among s (seeds_of rs) → member s (seen ++ first_seeds seen rs) ≡ true
unfolding first_seeds
first-has s seen [] a = absurd a
first-has s seen (r ∷ rs) (inl q) =
    elim (either (member r.seed seen)) [
      | inl e ↦ rw e (member-append s seen (first_seeds seen rs) ∙ rw (ap (λ (t : ℕ). member t seen) q ∙ e))
      | inr e ↦ rw e (ap (λ (t : ℕ). member t (seen ++ (r.seed ∷ first_seeds (seen ++ (r.seed ∷ [])) rs))) q ∙ there r.seed seen _)
    ]
first-has s seen (r ∷ rs) (inr a) =
    elim (either (member r.seed seen)) [
      | inl e ↦ rw e (first-has s seen rs a)
      | inr e ↦
          rw (e, ← append_assoc seen (r.seed ∷ []) (first_seeds (seen ++ (r.seed ∷ [])) rs)) (first-has s (seen ++ (r.seed ∷ [])) rs a)
    ]
