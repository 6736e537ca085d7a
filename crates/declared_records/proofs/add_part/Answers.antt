-- `declared_records::add_part` meets its contract: the part declares nothing, or its record is stored where its name stands,
-- or behind all records. Assumes nothing.
use native.Mathlib.Omega.{arith}
use mathlib.Core.Path.{◌≡◌, refl, ◌∙◌}
use lib.ListN.{take, drop}
use Rattle.declared_records.specs.Held.{records_from, place_of, name_hash}
use Rattle.declared_records.proofs.GatherLaws.{add_none, add_one}
use Rattle.declared_records.proofs.add_part.Goals as goal

pub returns-then-p-eq0-clause-added : goal.returns-then-p-eq0-clause-added
returns-then-p-eq0-clause-added c =
    let a = c.args in
    add_none a.text.now a.records.now a.count a.p c.requires.count_bound c.requires.hashed c.if-p-eq0.true

pub returns-clause-added : goal.returns-clause-added
returns-clause-added c =
    let a = c.args in
    let p = a.p in
    let name = take p.name.len (drop p.name.at a.text.now) in
    let found : c.find_name-k.result ≡ place_of name (records_from a.text.now a.records.now 1 a.count) = c.find_name-k.ensures.value ∙ rw c.of-name.ensures refl in
    let hashed : c.hash_of-hash.result ≡ name_hash name = c.hash_of-hash.ensures.value ∙ rw c.of-name.ensures refl in
    let e = add_one a.text.now a.records.now a.count p c.if-p-eq0.false _ found (omega arith) (omega (arith, c.if-k-eq-RECORD_LIMIT.false)) c.requires.hashed c.requires.count_bound in
    rw (c.put_part.ensures, hashed, c.max.ensures) e
