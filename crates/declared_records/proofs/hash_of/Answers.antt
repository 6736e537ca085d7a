-- `declared_records::hash_of` meets its contract: by `hash_push` each turn gives the hash of one byte more. Assumes nothing.
use Rattle.std.proofs.Common.{◌≡◌, subst, rules}
use Rattle.std.proofs.lemmas.Fn.{fold_over, slice_gives, fronts}
use Rattle.declared_records.specs.Held.{name_hash}
use Rattle.declared_records.proofs.HeldLaws.{hash_push, hash_none}
use Rattle.declared_records.proofs.hash_of.Goals as goal

pub returns-clause-value : goal.returns-clause-value
returns-clause-value c =
    subst (λ l. c.fold-hash.result ≡ name_hash l) c.iter.ensures.rest
    (fold_over fronts (λ y. y.now) _ (λ ys n. n ≡ name_hash ys) _ (λ ys a x b f' j k. let more = hash_push a ys x.now j in search rules)
    _ _ _ _ (slice_gives c.iter.result) hash_none c.fold-hash.ensures.ran)
