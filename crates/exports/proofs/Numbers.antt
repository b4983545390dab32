-- The number of a verdict, as the answer for callers in other languages.
use Rattle.std.proofs.Common.{◌≡◌, ℕ, List, Result, Ok, Err, MatchResult, subst}
use Rattle.fault.specs.declared.Fault.{Fault}
use Rattle.fault.specs.Faults.{number_of}
use Rattle.kit.specs.Models.{Model}
use Rattle.catalogue.specs.declared.room.Counts.{Counts}
use Rattle.catalogue.specs.Holding.{Slices, room}
use Rattle.reader.specs.Verdicts as reader
use Rattle.joiner.specs.Verdicts as joiner
use Rattle.exports.specs.Answers.{Answered, read, refused, Judged, joined, unjoined}

module _ (s : List ℕ) (old new : Slices) (blank : old ≡ room) (n : ℕ) where
  pub answered : (v : Result Counts Fault) → MatchResult v (λ k. reader.Accepted s old new k) (λ f. reader.Refused s old new f) → MatchResult v (λ _. n ≡ 0) (λ f. n ≡ number_of f.cause) → Answered s n
  answered (Ok k) h e = read h.layout h.records h.read e
  answered (Err f) h e = refused f (subst (λ z. reader.Refusal s z f) blank h.why) e

  pub judged : (m : Model) (v : Result Counts Fault) → MatchResult v (λ k. joiner.Accepted m s old new k) (λ f. joiner.Refused m s old new f) → MatchResult v (λ _. n ≡ 0) (λ f. n ≡ number_of f.cause) → Judged m s n
  judged m (Ok k) h e = joined h.layout h.records h.read h.joins e
  judged m (Err f) h e = unjoined f (subst (λ z. joiner.Refusal m s z f) blank h.why) e
