-- How a draft is read, line by line. Is what is read exactly what stands there?
use Rattle.std.specs.Prelude.{◌≡◌, ℕ, ◌≤◌, List, [], ◌∷◌, ◌++◌, length, codes, ◌≢◌, Result, Ok, Err}
use Rattle.std.specs.List.{AllZip}
use Rattle.std.specs.Fmt.{decimal}
use Rattle.mb_model.specs.declared.limits.TheConstants.{CODE_LIMIT, TARGET_LIMIT}
use Rattle.mb_model.specs.declared.key.PublicKey.{PublicKey}
use Rattle.mb_model.specs.declared.key.Trust.{Trust}
use Rattle.mb_model.specs.declared.layer.Trusts.{Trusts}
use Rattle.mb_model.specs.declared.order.OrderKind.{OrderKind}
use Rattle.mb_model.specs.declared.order.OrderKind.TheVariants as orders
use Rattle.mb_model.specs.declared.order.Act.{Act}
use Rattle.mb_model.specs.declared.order.Act.TheVariants as act
use Rattle.mb_model.specs.declared.order.Target.{Target}
use Rattle.mb_model.specs.declared.order.Order.{Order}
use Rattle.mb_model.specs.signatures.Key.{key_bytes, IsSized}
use Rattle.mb_model.specs.owners.Rules.{MayBeFor}
use Rattle.mb_model.specs.chains.Lines.{spaced_words, number_limit}
use Rattle.mb_model.specs.chains.Script.{EndsInHex}
use Rattle.mb_model.specs.chains.Drafts.{kind_word, trust_word, SaysTarget, SaysTrusts, SayAct, IsDraft}
use Rattle.mb_words.specs.declared.said.NotSaid.{NotSaid}
use Rattle.mb_words.specs.declared.said.NotSaid.TheVariants as why
use Rattle.mb_officer.specs.declared.draft.Loading.{Loading}
use Rattle.mb_officer.specs.declared.draft.Loading.TheVariants as loading
use Rattle.mb_officer.specs.declared.draft.Kind.{Kind}
use Rattle.mb_officer.specs.declared.draft.Kind.TheVariants as kind
use Rattle.mb_officer.specs.declared.draft.Said.{Said}
use Rattle.mb_officer.specs.declared.draft.Said.TheVariants as said

-- ---- the first line

-- the load of this kind
abbrev pub load_act : Loading → ℕ → Trusts → List ℕ → Act
load_act loading.Ordinary version trust code =
    act.Load (record { version = version; trust = trust; code = code })
load_act loading.Emergency version trust code =
    act.Emergency (record { version = version; trust = trust; code = code })

-- what an act orders, without its details
abbrev pub ordered_by : Act → Kind
ordered_by (act.Establish owner trust) = kind.Establish
ordered_by act.Surrender = kind.Surrender
ordered_by (act.Load payload) = kind.Load loading.Ordinary
ordered_by (act.Emergency payload) = kind.Load loading.Emergency
ordered_by (act.NewKey k) = kind.NewKey k

-- the first line of a draft
abbrev pub heading_line : Kind → ℕ → List ℕ
heading_line kind.Establish layer = codes "order establish " ++ decimal layer
heading_line kind.Surrender layer = codes "order surrender " ++ decimal layer
heading_line (kind.Load loading.Ordinary) layer = codes "order load " ++ decimal layer
heading_line (kind.Load loading.Emergency) layer = codes "order emergency " ++ decimal layer
heading_line (kind.NewKey k) layer = codes "order newkey " ++ decimal layer ++ 32 ∷ kind_word k

-- the kind of an order whose first line orders this
abbrev pub order_kind : Kind → OrderKind
order_kind kind.Establish = orders.Establish
order_kind kind.Surrender = orders.Surrender
order_kind (kind.Load loading.Ordinary) = orders.Load
order_kind (kind.Load loading.Emergency) = orders.Emergency
order_kind (kind.NewKey k) = orders.NewKey

-- the line orders this of a layer that such an order may be for
abbrev pub IsHeading : List ℕ → Kind → ℕ → Type 0
IsHeading line k layer = MayBeFor (order_kind k) layer × (line ≡ heading_line k layer)

-- ---- what a layer trusts

-- the first of two trusts is this one, and the word says the second
abbrev pub SaysSecond : Trust → List ℕ → Trusts → Type 0
SaysSecond first word trusts = (trusts.one ≡ first) × (word ≡ trust_word trusts.two)

-- ---- the lines after those that were read

-- an order that nobody has signed
abbrev pub drafted : ℕ → List Target → Act → Order
drafted layer targets a = record { layer = layer; targets = targets; act = a; signature = []; countersignatures = [] }

-- what was read is allowed
abbrev pub IsSoundDraft : Said → List Target → Type 0
IsSoundDraft said.Nothing targets = targets ≡ []
IsSoundDraft (said.Heading k layer) targets = MayBeFor (order_kind k) layer × (length targets ≤ TARGET_LIMIT)
IsSoundDraft (said.Owner layer owner) targets =
    MayBeFor orders.Establish layer × (length targets ≤ TARGET_LIMIT) × IsSized owner
IsSoundDraft (said.Version l layer version) targets =
    MayBeFor (order_kind (kind.Load l)) layer × (length targets ≤ TARGET_LIMIT) × (version ≤ number_limit)
IsSoundDraft (said.Trust l layer version trust) targets =
    MayBeFor (order_kind (kind.Load l)) layer × (length targets ≤ TARGET_LIMIT) × (version ≤ number_limit)
IsSoundDraft (said.All layer a) targets = length targets ≤ TARGET_LIMIT

-- the lines after the first line and some targets
pub record SaysTargets
    (k : Kind)
    (layer : ℕ)
    (targets : List Target)
    (lines : List (List ℕ))
    (order : Order) : Type 0 where
  pub target_lines : List (List ℕ)
  pub act_lines : List (List ℕ)
  pub more : List Target
  pub spelled : lines ≡ target_lines ++ act_lines
  pub targeted : AllZip SaysTarget target_lines more
  pub all : order.targets ≡ targets ++ more
  pub few : length order.targets ≤ TARGET_LIMIT
  pub says_act : SayAct act_lines order.act
  pub of_kind : ordered_by order.act ≡ k
  pub of_layer : order.layer ≡ layer
  pub unsigned : order.signature ≡ []
  pub alone : order.countersignatures ≡ []

-- the line of the code, after the trust of a load
pub record SaysCode
    (l : Loading)
    (layer version : ℕ)
    (trust : Trusts)
    (targets : List Target)
    (lines : List (List ℕ))
    (order : Order) : Type 0 where
  pub line : List ℕ
  pub code : List ℕ
  pub coded : EndsInHex line (codes "code" ∷ []) code
  pub fits : length code ≤ CODE_LIMIT
  pub spelled : lines ≡ line ∷ []
  pub made : order ≡ drafted layer targets (load_act l version trust code)

-- the lines after the version of a load
pub record SaysLoad
    (l : Loading)
    (layer version : ℕ)
    (targets : List Target)
    (lines : List (List ℕ))
    (order : Order) : Type 0 where
  pub trust : Trusts
  pub line_of_trusts : List ℕ
  pub trusted : SaysTrusts line_of_trusts trust
  pub remaining : List (List ℕ)
  pub spelled : lines ≡ line_of_trusts ∷ remaining
  pub coded : SaysCode l layer version trust targets remaining order

-- the line after the owner of an establish
pub record SaysOwner
    (layer : ℕ)
    (owner : PublicKey)
    (targets : List Target)
    (lines : List (List ℕ))
    (order : Order) : Type 0 where
  pub trust : Trusts
  pub line_of_trusts : List ℕ
  pub trusted : SaysTrusts line_of_trusts trust
  pub spelled : lines ≡ line_of_trusts ∷ []
  pub made : order ≡ drafted layer targets (act.Establish owner trust)

-- these lines complete what was read into the draft of an order
abbrev pub SaysRest : Said → List Target → List (List ℕ) → Order → Type 0
SaysRest said.Nothing targets lines order = IsDraft lines order
SaysRest (said.Heading k layer) targets lines order = SaysTargets k layer targets lines order
SaysRest (said.Owner layer owner) targets lines order = SaysOwner layer owner targets lines order
SaysRest (said.Version l layer version) targets lines order = SaysLoad l layer version targets lines order
SaysRest (said.Trust l layer version trust) targets lines order = SaysCode l layer version trust targets lines order
SaysRest (said.All layer a) targets lines order = (lines ≡ []) × (order ≡ drafted layer targets a)

-- ---- one more line

-- with this line, what was read before becomes this: the same lines complete both
pub record LineFollows
    (before : Said)
    (targets : List Target)
    (line : List ℕ)
    (next : Said)
    (after : List Target) : Type 0 where
  pub sound : IsSoundDraft next after
  pub on : (more : List (List ℕ)) (order : Order)
      → SaysRest next after more order → SaysRest before targets (line ∷ more) order
  pub only : (more : List (List ℕ)) (order : Order)
      → SaysRest before targets (line ∷ more) order → SaysRest next after more order

-- what was read with a further line, or that no draft continues with that line
abbrev pub TellsNext : Said → List Target → List ℕ → Result Said NotSaid → List Target → Type 0
TellsNext before targets line (Ok next) after = LineFollows before targets line next after
TellsNext before targets line (Err why.Form) after =
    (more : List (List ℕ)) (order : Order) → SaysRest before targets (line ∷ more) order → ⊥
TellsNext before targets line (Err why.NoMemory) after = Unit {0}

-- one more target, unless there are already as many as an order may have
abbrev pub AddsTarget : Kind → ℕ → List Target → Target → Result Said NotSaid → List Target → Type 0
AddsTarget k layer targets target (Ok next) after =
    (next ≡ said.Heading k layer) × (after ≡ targets ++ target ∷ []) × (length targets ≢ TARGET_LIMIT)
AddsTarget k layer targets target (Err why.Form) after = length targets ≡ TARGET_LIMIT
AddsTarget k layer targets target (Err why.NoMemory) after = Unit {0}

-- the first line after the targets: the new owner, or the version of the code
abbrev pub IsFirst : Kind → ℕ → List ℕ → Said → Type 0
IsFirst k layer line (said.Owner n owner) =
    (k ≡ kind.Establish) × (n ≡ layer) × IsSized owner × EndsInHex line (codes "owner" ∷ []) (key_bytes owner)
IsFirst k layer line (said.Version l n version) =
    (k ≡ kind.Load l) × (n ≡ layer) × (version ≤ number_limit)
    × (line ≡ spaced_words (codes "version" ∷ decimal version ∷ []))
IsFirst k layer line other = ⊥
