-- What a survey of bytes from a cursor on answers before all of them are there. Does a field fail whatever follows, or
-- can it still be completed?
use Rattle.std.specs.Prelude.{◌≡◌, ℕ, ◌≤◌, List, length, Option, Some, None, Result, Ok, Err}
use Rattle.mb_format.specs.Format.{Format}
use Rattle.mb_format.specs.Combinators.{between, items, led}
use Rattle.std.specs.Int.{w8}
use Rattle.mb_model.specs.declared.order.Countersignature.{Countersignature}
use Rattle.mb_model.specs.declared.order.OrderKind.{OrderKind}
use Rattle.mb_model.specs.records.OrderFormat.{Body, countersignature_format, climb_after, countersignature_limit}
use Rattle.mb_model.specs.records.OrderFormat.{order_format}
use Rattle.mb_model.specs.owners.Rules.{kind_of}
use Rattle.mb_bytes.specs.declared.cursor.Cursor.{Cursor}
use Rattle.mb_bytes.specs.Reads.{SameBytes}
use Rattle.mb_command.specs.declared.stuck.Stuck.{Stuck}
use Rattle.mb_command.specs.declared.stuck.Stuck.TheVariants.{Lost, Open}
use Rattle.mb_command.specs.declared.stuck.Heading.{Heading}
use Rattle.mb_command.specs.Beginnings.{FailsFrom, CanEndFrom, FailsHowever, CanBecome}

-- a value was read that `Tells` holds of, and the cursor stands after it
pub record IsFound {A : Type 0} (f : Format A) (old new : Cursor) (Tells : A → Type 0) : Type 0 where
  pub bytes : SameBytes old new
  pub value : A
  pub reads : f.reads old.bytes.now old.offset ≡ Ok (value, new.offset)
  pub told : Tells value

-- reading fails at an offset whatever follows, or some bytes that follow complete a value
abbrev pub IsStuck : {A : Type 0} → Format A → Cursor → Stuck → Cursor → Type 0
IsStuck f old (Lost at) new = SameBytes old new × FailsFrom f old.bytes.now old.offset at
IsStuck f old Open new = SameBytes old new × CanEndFrom f old.bytes.now old.offset

-- the result of a survey of a value of the format: `Tells` relates what was answered to the value
abbrev pub Surveys : {A X : Type 0} → (X → A → Type 0) → Format A → Cursor → Result X Stuck → Cursor → Type 0
Surveys Tells f old (Ok x) new = IsFound f old new (Tells x)
Surveys Tells f old (Err e) new = IsStuck f old e new

-- an answer that says nothing of the value
abbrev pub NothingTold : {A : Type 0} → Unit {0} → A → Type 0
NothingTold u a = Unit {0}

-- an answer that is the value
abbrev pub IsTold : {A : Type 0} → A → A → Type 0
IsTold x a = a ≡ x

-- an answer that is the kind and the layer of the signed part
pub record IsHeadingOf (heading : Heading) (body : Body) : Type 0 where
  pub kind : kind_of body.act ≡ heading.kind
  pub layer : body.layer ≡ heading.layer
  pub most : heading.layer ≤ 3

-- an answer that is the layer of a countersignature
abbrev pub IsLayerOf : ℕ → Countersignature → Type 0
IsLayerOf layer c = c.layer ≡ layer

-- the countersignatures of an order of this kind for this layer
abbrev pub countersignatures_above : OrderKind → ℕ → Format (List Countersignature)
countersignatures_above kind layer = led (between w8 0 (countersignature_limit kind layer)) length
    (λ n. items countersignature_format climb_after n (record { below = layer; left = n }))

-- what is settled of bytes: the offset at which they fail whatever follows, or that they can become an order
abbrev pub IsSettled : List ℕ → Option ℕ → Type 0
IsSettled bytes (Some at) = FailsHowever order_format bytes at
IsSettled bytes None = CanBecome order_format bytes
