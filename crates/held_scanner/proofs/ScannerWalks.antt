-- What the walks of the functions over a `Scanner` share. Each takes the struct apart and calls one search, so what the search asks is what the function was passed, and what the search leaves is what the function leaves.
--     text_out     what a `Scanner` owns gives what its slice owns
--     passes       so what a function is passed, a `Scanner` first, gives what is passed to a search, the slice first
--     comes        of what a search leaves, the result's type can be read, and nothing is lost
--     struct-vals, struct_tells, struct-typed      how a `Scanner`'s machine value is spelled, that its relation tells it, and its typing
--     spelled      a run meets a contract, from a walk with the parameters' machine values written out
-- Assumes `Logic`.
use mathlib.Core.Path.{◌≡◌}
use mathlib.Core.List.{List, [], ◌∷◌}
use seplogic.Ra.Ura.{Ura}
use lib.Dec.{T as Holds}
use mir.Val.{Val, WT, has_ty}
use base.Logic.{SProp, ent, id⊢, sep, wand, emp, via, comm∗, mono_l, wand_i, apply∗}
use base.Fml.{Fml}
use types.Logic.{Logic, sem}
use contract.Monad.{Fun}
use contract.Lifetimes.{Lfts, Shares, AllOutlive}
use types.Kit.{Item, Goal, Soaks, Seq, ‵, raw, ◌⊛◌, given, some, later, ◌$◌, ◌∵◌, !, qed, move, keep, use1, split, join, learn, pick, frame, show, await, updating, now as at_once, done}
use denote.RattleType.{RattleType, flat}
use denote.Laws.{Is, Tells, shows, Are, Ises, Spells, valss, Tellss}
use denote.Builtin.{u8}
use denote.Ref.{NamedLft}
use denote.Signature.{Signature, type_at, types_at}
use denote.Slice.{ShrSlice, shr_slice_vals}
use denote.Steps.{said, peeks}
use denote.Struct.Laws as LL
use denote.Struct.Rest.{all_own, field_own, rest, own_open, own_out}
use denote.Triple.Entry.{Args, Vals, Res, alive, on_entry}
use denote.Triple.Spec.{Spec, Back, Meets, triple_of}
use Rattle.held_scanner.specs.declared.Scanner.{Scanner}
use Rattle.held_scanner.specs.contracts.Scanner as T
use Rattle.held_scanner.proofs.Scanner.TheLaws as T'

abbrev pub struct_vals : NamedLft → Scanner → List Val
struct_vals α = LL.vals (T.the_type α) (T'.the_laws α)

pub struct_tells : (α : NamedLft) → Tells (T.the_row α) (Is (T.the_row α)) (struct_vals α)
struct_tells α = LL.tells (T.the_type α) (T'.the_laws α)

module _ {M : Type 1} {𝓤 : Ura M} (𝓛 : Logic 𝓤) where
  open 𝓛 use {H}

  module _ (α : NamedLft) (d : Scanner) where
    abbrev Struct : Fml
    Struct = (T.the_row α).own_val d (T'.lowered d ∷ [])

    pub struct_typed : Is (T.the_row α) d (T'.lowered d ∷ []) → Holds (has_ty (T'.mir α.mir) (T'.lowered d)) × WT (T'.lowered d)
    struct_typed is = ((LL.lawful (T.the_type α) (T'.the_laws α) 𝓛).typed d _ is).0

    abbrev Text : Fml
    Text = (ShrSlice α.mir α.lft u8).own_val d.text (shr_slice_vals d.text)

    pub text_out : ent 𝓤 (sem 𝓛 Struct) (sem 𝓛 Text)
    text_out =
        qed 𝓛 (‵ Struct ∷ []) ∵ use1 𝓛 (given (T'.lowered d ∷ [] ≡ T'.lowered d ∷ []) (‵ (all_own (T.the_type α).parts (T'.the_laws α) (d.text, tt)))) (own_open 𝓛 (T.the_type α) (T'.the_laws α) (d.text, tt) (T'.lowered d)) $ learn ! (λ _.
        use1 𝓛 (‵ (field_own (T.the_type α).parts (T'.the_laws α) 0 d.text) ⊛ ‵ (rest (T.the_type α).parts (T'.the_laws α) 0 (d.text, tt))) (own_out 𝓛 (T.the_type α).parts (T'.the_laws α) 0 (d.text, tt)) $ split ! $ keep ! (0 ∷ []) $ done !)

    -- the tokens are P, and what the other parameters own is R; neither contract requires anything
    pub passes : (P : SProp 𝓤) (R : Fml) → ent 𝓤 (sep 𝓤 (sep 𝓤 P (sep 𝓤 (sem 𝓛 Struct) (sem 𝓛 R))) (emp 𝓤)) (sep 𝓤 (sep 𝓤 P (sep 𝓤 (sem 𝓛 Text) (sem 𝓛 R))) (emp 𝓤))
    passes P R = mono_l 𝓤 (emp 𝓤) (qed 𝓛 (raw P ∷ ‵ Struct ∷ ‵ R ∷ []) ∵ frame ! $ use1 𝓛 (‵ Text) text_out $ done !)

  module _ (S : Signature) (c : Spec 𝓤 S) where
    module _ (y : (triple_of 𝓛 S c).Ghost) (u : Val) where
      abbrev κs : Lfts S.lifetimes
      κs = y.0.0

      abbrev R : RattleType
      R = type_at S.result κs

      abbrev Left : Res S κs → SProp 𝓤
      Left r = sep 𝓤 (Back 𝓛 S y.0 u r) ((c κs y.0.3).ensures y.1 r)

      again : (r : Res S κs) → ent 𝓤 (Left r) ((triple_of 𝓛 S c).post y u)
      again r = qed 𝓛 (raw (Left r) ∷ []) ∵ updating ! $ at_once ! $ show ! Left r $ done !

      pub comes : {K : Type 0} {Γ : List (Item 𝓤)} {G : Goal 𝓤 H} → K → Soaks G → ((r : Res S κs) → Is R r (u ∷ []) → Seq K 𝓛 (raw ((triple_of 𝓛 S c).post y u) ∷ Γ) G) → Seq K 𝓛 (raw ((triple_of 𝓛 S c).post y u) ∷ Γ) G
      comes t z k =
          use1 𝓛 (later (some (λ (r : Res S κs). (raw (alive 𝓛 S κs y.0.1) ⊛ ‵ (R.own_val r (u ∷ []))) ⊛ raw ((c κs y.0.3).ensures y.1 r)))) (id⊢ 𝓤 _) $ await t z $ pick t (λ r. split t $ split t $ move t (1 ∷ []) $
          peeks t R (Is R) (shows 𝓛 R) r (u ∷ []) (λ is. move t (1 ∷ 0 ∷ []) $ join t $ join t $ use1 𝓛 (raw ((triple_of 𝓛 S c).post y u)) (again r) $ k r is))

module _ {M : Type 1} {𝓤 : Ura M} (𝓛 : Logic 𝓤) (S : Signature) (c : Spec 𝓤 S) where
  pub spelled : (run : Fun 𝓤) (sp : (κs : Lfts S.lifetimes) → Spells (types_at S.params κs)) → ((κs : Lfts S.lifetimes) → Tellss (types_at S.params κs) (Ises (types_at S.params κs)) (sp κs))
      → ((κs : Lfts S.lifetimes) (qs : Shares S.lifetimes) (bounds : AllOutlive S.lifetimes S.outlives κs) (a : Args S κs) (g : (c κs a).ghost)
      → Are (types_at S.params κs) (Ises (types_at S.params κs)) a (valss (types_at S.params κs) (sp κs) a)
      → ent 𝓤 (sep 𝓤 (on_entry 𝓛 S κs qs a (valss (types_at S.params κs) (sp κs) a)) ((c κs a).requires g))
      (run (flat (types_at S.params κs) (valss (types_at S.params κs) (sp κs) a)) ((triple_of 𝓛 S c).post ((κs, qs, bounds, a, valss (types_at S.params κs) (sp κs) a), g))))
      → Meets 𝓛 S run c
  spelled run sp tl k y =
      let κs : Lfts S.lifetimes = y.0.0 in
      let N : SProp 𝓤 = (c κs y.0.3).requires y.1 in
      let Q : Vals S κs → SProp 𝓤 = λ us. run (flat (types_at S.params κs) us) ((triple_of 𝓛 S c).post ((κs, y.0.1, y.0.2, y.0.3, us), y.1)) in
      via 𝓤 (sep 𝓤 N (wand 𝓤 N (Q y.0.4)))
      (via 𝓤 (sep 𝓤 (wand 𝓤 N (Q y.0.4)) N)
      (mono_l 𝓤 N (said 𝓛 S κs y.0.1 (sp κs) (tl κs) y.0.3 (λ us. wand 𝓤 N (Q us)) y.0.4 (λ are. wand_i 𝓤 _ N _ (k κs y.0.1 y.0.2 y.0.3 y.1 are))))
      (comm∗ 𝓤 (wand 𝓤 N (Q y.0.4)) N))
      (apply∗ 𝓤 N (Q y.0.4))
