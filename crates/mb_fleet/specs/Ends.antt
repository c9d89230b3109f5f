-- Which answer the result of a call names. What does `add` answer for the register?
use Rattle.std.specs.Prelude.{◌≡◌, ℕ, ◌≤◌, List, [], ◌++◌, length, codes, Option, None, Some, IfSome, OnOk}
use Rattle.std.specs.Prelude.{Result, Ok, Err}
use Rattle.std.specs.Global.{Vec}
use Rattle.std.specs.Fmt.{decimal}
use Rattle.mb_model.specs.declared.key.PublicKey.{PublicKey}
use Rattle.mb_model.specs.declared.limits.TheConstants.{FILE_LIMIT}
use Rattle.mb_model.specs.declared.memory.NoMemory.{NoMemory}
use Rattle.mb_model.specs.outside.Texts.{line_with_lf}
use Rattle.mb_model.specs.chains.Lines.{text_of}
use Rattle.mb_model.specs.chains.Acceptance.{ChainRefusal}
use Rattle.mb_model_commands.specs.VerifyCommand.{chain_refusal_line}
use Rattle.mb_bytes.specs.Puts.{Puts}
use Rattle.mb_verifier.specs.declared.refusal.ChainRefusal as verifier
use Rattle.mb_verifier.specs.declared.refusal.ChainRefusal.TheVariants as why
use Rattle.mb_verifier.specs.Ends.{chain_refusal_of}
use Rattle.mb_fleet.specs.declared.row.Row.{Row}
use Rattle.mb_fleet.specs.declared.item.Item.{Item}
use Rattle.mb_fleet.specs.declared.item.Item.TheVariants.{Show, Find, Codes}
use Rattle.mb_fleet.specs.declared.end.Added.{Added}
use Rattle.mb_fleet.specs.declared.end.Added.TheVariants as shown
use Rattle.mb_fleet.specs.declared.end.FleetEnd.{FleetEnd}
use Rattle.mb_fleet.specs.declared.end.FleetEnd.TheVariants as end
use Rattle.mb_bytes.specs.declared.end.ReadEnd.{ReadEnd}
use Rattle.mb_bytes.specs.declared.end.ReadEnd.TheVariants as reading
use Rattle.mb_fleet.specs.declared.end.ServeEnd.{ServeEnd}
use Rattle.mb_fleet.specs.declared.end.ServeEnd.TheVariants as serving
use Rattle.mb_fleet.specs.Showing.{Answer, newly_added, same, extended, chain_refused, older, forked, full}
use Rattle.mb_fleet.specs.Showing.{Meets, IsChainAnswered}
use Rattle.mb_fleet.specs.ItemFormat.{AreItems, ItemsFailAt}
use Rattle.mb_fleet.specs.Serving.{answer_line, FleetStep, AreServed, IsTooLong}

abbrev pub answer_of : Added → Answer
answer_of (shown.Same serial n) = same serial n
answer_of (shown.Added serial n) = newly_added serial n
answer_of (shown.Extended serial n) = extended serial n

-- the end to which an error of the verifier leads: a refusal of the chain, or want of memory
abbrev pub fleet_end_of : verifier.ChainRefusal → FleetEnd
fleet_end_of (why.Form at) = end.Chain (why.Form at)
fleet_end_of (why.Signature entry) = end.Chain (why.Signature entry)
fleet_end_of (why.Order entry) = end.Chain (why.Order entry)
fleet_end_of (why.Rules entry) = end.Chain (why.Rules entry)
fleet_end_of why.KeyUnknown = end.Chain why.KeyUnknown
fleet_end_of why.StatementSignature = end.Chain why.StatementSignature
fleet_end_of (why.StatementNumber named last) = end.Chain (why.StatementNumber named last)
fleet_end_of why.NotAlive = end.Chain why.NotAlive
fleet_end_of why.NoMemory = end.NoMemory

-- The result of `add` is the answer to a chain, and these are the rows afterwards. A refusal of the chain is never want
-- of memory. If an allocation failed, the rows are as they were.
abbrev pub AnswersChain : PublicKey → List Row → List ℕ → Result Added FleetEnd → List Row → Type 0
AnswersChain maker rows bytes (Ok answer) after = IsChainAnswered maker rows bytes (answer_of answer) after
AnswersChain maker rows bytes (Err (end.Chain refusal)) after =
    (reason : ChainRefusal) × (chain_refusal_of refusal ≡ Some reason)
    × IsChainAnswered maker rows bytes (chain_refused reason) after
AnswersChain maker rows bytes (Err (end.Older serial have)) after =
    IsChainAnswered maker rows bytes (older serial have) after
AnswersChain maker rows bytes (Err (end.Fork serial place)) after =
    IsChainAnswered maker rows bytes (forked serial place) after
AnswersChain maker rows bytes (Err end.Full) after = IsChainAnswered maker rows bytes full after
AnswersChain maker rows bytes (Err end.NoMemory) after = after ≡ rows

-- a result is the answer to a row that meets the rows, and these are the rows afterwards; no chain is refused
abbrev pub AnswersRow : List Row → Row → Result Added FleetEnd → List Row → Type 0
AnswersRow rows row (Ok answer) after = Meets rows row (answer_of answer) after
AnswersRow rows row (Err (end.Chain refusal)) after = ⊥
AnswersRow rows row (Err (end.Older serial have)) after = Meets rows row (older serial have) after
AnswersRow rows row (Err (end.Fork serial place)) after = Meets rows row (forked serial place) after
AnswersRow rows row (Err end.Full) after = Meets rows row full after
AnswersRow rows row (Err end.NoMemory) after = after ≡ rows

-- the end of a refusal's line: where the chain is wrong, if it is wrong in one place
abbrev pub refused_place_words : Option ℕ → List ℕ
refused_place_words None = []
refused_place_words (Some place) = codes " " ++ decimal place

-- the line of this end is appended; want of memory has no line
abbrev pub TellsEnd : FleetEnd → Vec ℕ → Result (Unit {0}) NoMemory → Vec ℕ → Type 0
TellsEnd (end.Chain refusal) old result new =
    IfSome (chain_refusal_of refusal) (λ reason. Puts (line_with_lf (chain_refusal_line reason)) old result new)
TellsEnd (end.Older serial have) old result new = Puts (line_with_lf (answer_line (older serial have))) old result new
TellsEnd (end.Fork serial place) old result new = Puts (line_with_lf (answer_line (forked serial place))) old result new
TellsEnd end.Full old result new = Puts (line_with_lf (answer_line full)) old result new
TellsEnd end.NoMemory old result new = OnOk result ⊥

-- an item is served, and the lines of its answer are appended to a text
pub record AppendsStep (maker : PublicKey) (rows : List Row) (item : Item) (old new : List ℕ)
    (after : List Row) : Type 0 where
  pub lines : List (List ℕ)
  pub step : FleetStep maker rows item lines after
  pub appended : new ≡ old ++ text_of lines

-- the chain of an item is no longer than a file may be
abbrev pub HasShortChain : Item → Type 0
HasShortChain (Show chain) = length chain ≤ FILE_LIMIT
HasShortChain (Find layer hash) = Unit {0}
HasShortChain (Codes layer) = Unit {0}

-- the result of reading items: the bytes spell these, or fail at this offset
abbrev pub ReadsItems : List ℕ → Result (List Item) ReadEnd → Type 0
ReadsItems bytes (Ok listed) = AreItems bytes listed
ReadsItems bytes (Err (reading.Bad at)) = ItemsFailAt bytes at
ReadsItems bytes (Err reading.NoMemory) = Unit {0}

-- the result of serving items: the text of the answers, or that this text is too long
abbrev pub ServesItems : PublicKey → List Row → List Item → Result (List ℕ) ServeEnd → List Row → Type 0
ServesItems maker rows listed (Ok text) after = AreServed maker rows listed text after
ServesItems maker rows listed (Err serving.TooLong) after = IsTooLong maker rows listed
ServesItems maker rows listed (Err serving.NoMemory) after = Unit {0}
