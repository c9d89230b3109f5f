-- Laws of a relying party's command. If `trust` allows a key by a chain with a statement, did that device make the
-- statement, in a configuration that the policy allows?
use Rattle.std.specs.Prelude.{◌≡◌, ◌≤◌, ℕ, List, [], ◌∷◌, length, codes, slice_get, true, Some}
use Rattle.mb_model.specs.declared.entry.Said.{Said}
use Rattle.mb_model.specs.declared.entry.Statement.{Statement}
use Rattle.mb_model.specs.declared.key.PublicKey.{PublicKey}
use Rattle.mb_model.specs.declared.limits.TheConstants.{ENTRY_LIMIT}
use Rattle.mb_model.specs.declared.state.Configuration.{Configuration}
use Rattle.mb_model.specs.declared.state.Report.{Report}
use Rattle.mb_model.specs.declared.state.State.{State}
use Rattle.mb_model.specs.chains.Acceptance.{Accepts, Honest}
use Rattle.mb_model.specs.owners.Lives.{configuration}
use Rattle.mb_model.specs.owners.Log.{entries_of, serial_of}
use Rattle.mb_model.specs.machine.Machine.{World}
use Rattle.mb_model.specs.outside.Texts.{line_with_lf}
use Rattle.mb_model.specs.memories.Valid.{Valid}
use Rattle.mb_model_commands.specs.Commands.{HasRead, Ended, CommandEnds, at_first}
use Rattle.mb_model_commands.specs.Inputs.{root_input}
use Rattle.mb_model_commands.specs.Outside.{Outside, read_once, Prints}
use Rattle.mb_model_histories.specs.AcceptanceLaws.{HonestStatement, WasMade}
use Rattle.mb_model_histories.specs.Histories.{ComesAfter}
use Rattle.mb_model_histories.specs.UseLaws.{ShowsStatement}
use Rattle.mb_policy.specs.declared.judging.Judgement.TheVariants as judgement
use Rattle.mb_policy.specs.Examples.{allow_rule, deny_rule}
use Rattle.mb_policy.specs.Judging.{ruling_at, IsJudged}
use Rattle.mb_policy.specs.Policies.{PolicyItem, key_lives}
use Rattle.mb_tools_policy.specs.Inputs.{policy_input}
use Rattle.mb_tools_policy.specs.TrustCommand.{TrustNames, trust}

-- What `trust` has read where it allows the key: a maker's key, a chain that is accepted under it, and a policy that
-- allows each configuration of the chain's report. It has printed `allowed`.
pub record AllowsKey (names : TrustNames) (before after : Outside) : Type 0 where
  pub root : List ℕ
  pub has_root : HasRead before names.root root
  pub maker : PublicKey
  pub root_is : (root_input names.root).Is root maker
  pub bytes : List ℕ
  pub has_chain : HasRead (read_once before) names.chain bytes
  pub policy : List ℕ
  pub has_policy : HasRead (read_once (read_once before)) names.policy policy
  pub items : List PolicyItem
  pub policy_is : (policy_input names.policy).Is policy items
  pub report : Report
  pub accepts : Accepts maker bytes names.key report
  pub judged : IsJudged items report judgement.Allowed
  pub printed : Prints (line_with_lf (codes "allowed")) (read_once (read_once (read_once before))) after

-- At status 0 `trust` has read a chain that is accepted and a policy that allows its report, and has printed `allowed`.
abbrev pub DoneTrustAllows : Type 0
DoneTrustAllows =
    (names : TrustNames) (ending : Ended) → CommandEnds (trust names) at_first ending → ending.status ≡ 0
    → AllowsKey names ending.before ending.after

-- the report lists this configuration, and the rule of the policy that decides about it allows
pub record IsAllowedIn (items : List PolicyItem) (report : Report) (asked : Configuration) : Type 0 where
  pub index : ℕ
  pub listed : slice_get report.lives index ≡ Some asked
  pub allows : (ruling_at items report index asked).allows ≡ true

-- If nothing was forged, the statement of a chain that `trust` allows was made by the device with this log, which has
-- the serial that the chain names, in a configuration that the policy allows.
abbrev pub AllowedStatementsWereMade : Type 0
AllowedStatementsWereMade =
    (names : TrustNames) (before after : Outside) (allows : AllowsKey names before after) (statement : Statement)
    → (first last : World) (live : State) → Valid first.state → ComesAfter last first → last.state ≡ Some live
    → length live.log ≤ ENTRY_LIMIT → Honest allows.accepts.chain.entries allows.maker (entries_of live.log)
    → allows.accepts.chain.statement ≡ Some statement
    → HonestStatement first last (entries_of live.log) names.key statement
    → (made : WasMade first last names.key allows.report statement)
    × (serial_of (entries_of allows.accepts.chain.entries) ≡ Some live.serial)
    × IsAllowedIn
    allows.items
    allows.report
    (configuration allows.report.layer made.number made.state.layers)

-- A device in use shows a statement that a policy of one rule, `allow a alive`, allows.
abbrev pub ShownStatementsCanBeAllowed : Type 0
ShownStatementsCanBeAllowed =
    (maker : PublicKey) (first : World) (said : Said) (shows : ShowsStatement maker first said)
    → IsJudged (allow_rule (codes "a") key_lives ∷ []) shows.report judgement.Allowed

-- That the policy allows the report cannot be left out: one of one rule, `deny a alive`, allows no configuration that
-- it lists.
abbrev pub DeniedStatementsAreNotAllowed : Type 0
DeniedStatementsAreNotAllowed =
    (maker : PublicKey) (first : World) (said : Said) (shows : ShowsStatement maker first said)
    → (asked : Configuration) → IsAllowedIn (deny_rule (codes "a") key_lives ∷ []) shows.report asked → ⊥
