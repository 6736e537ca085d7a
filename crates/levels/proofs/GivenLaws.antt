-- The actions given so far are those of the lines read so far. Assumes nothing.
use Rattle.std.specs.Prelude.{Some, None, []}
use mathlib.Core.Path.{◌≡◌, refl}
use mathlib.Core.List.{List, ◌∷◌}
use Prim.Native.Nat.{ℕ}
use Rattle.spec.proofs.LineLaws.{entry}
use Rattle.spec.specs.Bytes.{is_same}
use Rattle.spec.specs.Levels.{level_name, is_level, Entry, given_action, table_end}
use Rattle.spec.specs.declared.Level.{Level}
use Rattle.spec.specs.declared.Level.TheVariants.{Debug, Log, Info, Notice, Warning, Exception}
use Rattle.spec.specs.declared.Action.{Action}
use Rattle.spec.specs.Raise.{at_level, at_all, with_level}
use Rattle.levels.specs.Lines.{completed, given_by}

-- the action of a level
pub given_by_lem : (es : List Entry) (l : Level) → at_level (given_by es) l ≡ given_action es l
unfolding given_by
given_by_lem es Debug = refl
given_by_lem es Log = refl
given_by_lem es Info = refl
given_by_lem es Notice = refl
given_by_lem es Warning = refl
given_by_lem es Exception = refl

-- no line, and one line more
pub given_start : given_by [] ≡ at_all None
unfolding given_by given_action
given_start = refl

pub given_more : (es : List Entry) (l : Level) (a : Action) → with_level (given_by es) l (Some a) ≡ given_by (entry l a ∷ es)
unfolding given_by given_action is_level level_name is_same
given_more es Debug a = refl
given_more es Log a = refl
given_more es Info a = refl
given_more es Notice a = refl
given_more es Warning a = refl
given_more es Exception a = refl

-- what they say at the table's end
pub completed_by : (es : List Entry) (n : ℕ) → completed (given_by es) n ≡ table_end es n
unfolding given_by table_end
completed_by es n = refl
