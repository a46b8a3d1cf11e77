-- Laws of unions that are written with their values.
use Rattle.std.specs.Prelude.{ℕ, ◌≤◌, length, Some, Result, Ok, Err}
use Rattle.std.proofs.Common.{subst, sym}
use Rattle.planus_read.specs.Values.{reference}
use Rattle.planus_write.specs.History.{History}
use Rattle.planus_write.specs.Placing.{Outcome}
use Rattle.planus_write.specs.Preparing.{IsLawful}
use Rattle.planus_write.specs.State.{State, Grows, IsHistoryOf}
use Rattle.planus_write.specs.Unions.{union_reach}
use Rattle.planus_write.specs.declared.errors.BuildError.{BuildError}
use Rattle.planus_write.specs.declared.offset.Offset.{Offset}
use Rattle.planus_write.specs.declared.union_offset.UnionOffset.{UnionOffset}
use Rattle.planus_write.specs.Contents.{Content, FieldIs, UnionHolds, Comes, PreparesContent}
use Rattle.planus_write.specs.Contents.{PreparesUnionItem}
use Rattle.planus.specs.Variants.{WritesVariant}

pub variant_is_lawful
    : {X Y K T : Type 0} {may : Y → State → Type 0} {outcome : Y → Outcome (Offset K)}
    (tag : ℕ) (of : X → Y) → IsLawful may outcome (λ offset. offset.distance)
    → IsLawful {A = UnionOffset T} (λ x old. may (of x) old)
    (λ x old answer new. WritesVariant tag (outcome (of x)) old answer new) union_reach
variant_is_lawful {X} {Y} {K} {T} {may} {outcome} tag of lawful =
    record { grows = grows; reaches = reaches; stays = λ x. lawful.stays (of x) }
  where
    grows : (x : X) (old : State) (answer : Result (UnionOffset T) BuildError) (new : State)
        → may (of x) old → WritesVariant tag (outcome (of x)) old answer new → Grows old new
    grows x old (Ok union) new may done = lawful.grows (of x) old (Ok done.1.0) new may done.1.1
    grows x old (Err error) new may done = lawful.grows (of x) old (Err error) new may done

    reaches : (x : X) (old : State) (union : UnionOffset T) (new : State) → may (of x) old
        → WritesVariant tag (outcome (of x)) old (Ok union) new
        → union_reach union ≤ length new.bytes
    reaches x old union new may done =
        subst (λ (d : ℕ). d ≤ length new.bytes) (sym done.1.2)
        (lawful.reaches (of x) old done.1.0 new may done.1.1)

pub variant_prepared
    : {X Y K T : Type 0} {may : Y → State → Type 0} {outcome : Y → Outcome (Offset K)}
    {content : Y → Content} (tag : ℕ) (of : X → Y)
    → PreparesContent may outcome content (λ offset. reference offset.distance)
    → PreparesUnionItem {T = T} (λ x old. may (of x) old)
    (λ x old answer new. WritesVariant tag (outcome (of x)) old answer new)
    (λ x. (tag, content (of x)))
variant_prepared {X} {Y} {K} {T} {may} {outcome} {content} tag of lawful = record { comes = comes }
  where
    comes : (x : X) (old : State) (union : UnionOffset T) (new : State) (history : History)
        → may (of x) old
        → WritesVariant tag (outcome (of x)) old (Ok union) new → IsHistoryOf old history
        → Comes history new (λ after. UnionHolds after (Some (tag, content (of x))) (Some union))
    comes x old union new history may done is_history =
        let near = lawful.comes (of x) old done.1.0 new history may done.1.1 is_history in (
          near.0,
          near.1,
          near.2,
          (
            done.0,
            subst (λ (d : ℕ). FieldIs near.0 (content (of x)) (reference d)) (sym done.1.2) near.3,
          ),
        )
