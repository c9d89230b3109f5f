-- What carries out `fleet`, and that it is never refused.
use Rattle.std.proofs.Common.{◌≡◌, ◌≢◌, ℕ, List, true, false, Option, Err, sym, ◌∙◌, inl, inr}
use Rattle.mb_model.specs.outside.Board.{Held, Used}
use Rattle.mb_model.specs.declared.key.PublicKey.{PublicKey}
use Rattle.mb_model_commands.specs.Outside.{Outside, read_once}
use Rattle.mb_model_commands.specs.Commands.{Input, Command, Past, Ended, InputEnds, input_is_too_long, input_is_faulty, input_is_not_read, memory_lacks, PrintEnds, text_is_printed, text_is_not_printed, CommandEnds, ComesToRefusal, read, find, at_first}
use Rattle.mb_console.specs.declared.end.End.TheVariants as end
use Rattle.mb_console.specs.Ending.{CarriesOutRest, LeadsTo}
use Rattle.mb_console.proofs.Leading.{finds, lacks_memory}
use Rattle.mb_fleet.specs.declared.row.Row.{Row}
use Rattle.mb_fleet.specs.declared.item.Item.{Item}
use Rattle.mb_fleet.specs.declared.end.ServeEnd.{ServeEnd}
use Rattle.mb_fleet.specs.declared.end.ServeEnd.TheVariants as serving
use Rattle.mb_fleet.specs.Ends.{ServesItems}
use Rattle.mb_tools_fleet.specs.FleetCommand.{FleetNames, FleetOutcome, all_served, text_too_long, ServingComesTo, keep_register, fleet, FleetIsNotRefused}

-- ---- items are not answered

pub items_unanswered : {used : Used} {final : Held} {whole : Command} {past : Past} {before : Outside} {later : Past} {mid : Outside}
    {maker : PublicKey} {rows : List Row} {listed : List Item} {name : List ℕ} (found : List Item) (after : List Row) (why : ServeEnd)
    → LeadsTo used final whole past before (find (ServingComesTo maker rows listed) (keep_register name)) later mid → found ≡ listed → ServesItems maker rows found (Err why) after
    → later.wrote ≡ false → used ≡ later.used → CarriesOutRest whole past used final before (Err end.NoMemory) mid
items_unanswered found after serving.TooLong leads same long none kept = lacks_memory (finds leads text_too_long (rw same at long)) tt none kept
items_unanswered found after serving.NoMemory leads same free none kept = lacks_memory leads tt none kept

-- ---- no refusal

-- a status is not another
other_status : (status n : ℕ) → status ≡ n → n ≢ 7 → status ≢ 7
other_status status n is other seven = other (sym is ∙ seven)

input_not_refused : {A : Type 0} (input : Input A) (past : Past) (e : Ended) → InputEnds input past e → e.status ≢ 7
input_not_refused input past e (input_is_too_long held stops) = other_status e.status 3 stops.status_is (λ is. cc)
input_not_refused input past e (input_is_faulty bytes has place fault stops) = other_status e.status 3 stops.status_is (λ is. cc)
input_not_refused input past e (input_is_not_read mid fails stops) = other_status e.status 4 stops.status_is (λ is. cc)
input_not_refused input past e (memory_lacks wants) = other_status e.status 6 wants.stops.status_is (λ is. cc)

print_not_refused : (text : List ℕ) (past : Past) (e : Ended) → PrintEnds text past e → e.status ≢ 7
print_not_refused text past e (text_is_printed prints same is) = other_status e.status 0 is (λ n. cc)
print_not_refused text past e (text_is_not_printed mid fails stops) = other_status e.status 5 stops.status_is (λ is. cc)

register_not_refused : (name : List ℕ) (outcome : FleetOutcome) (past : Past) (e : Ended) → CommandEnds (keep_register name outcome) past e → e.status ≢ 7
unfolding CommandEnds
register_not_refused name (all_served text after) past e (inl fails) = other_status e.status 5 fails.stops.status_is (λ is. cc)
register_not_refused name (all_served text after) past e (inr (inl (mid, writes, inl ends))) = print_not_refused text (record past { wrote = true }) (record e { before = mid }) ends
register_not_refused name (all_served text after) past e (inr (inl (mid, writes, inr wants))) = other_status e.status 6 wants.stops.status_is (λ is. cc)
register_not_refused name (all_served text after) past e (inr (inr wants)) = other_status e.status 6 wants.stops.status_is (λ is. cc)
register_not_refused name text_too_long past e stops = other_status e.status 6 stops.status_is (λ is. cc)

find_not_refused : {A : Type 0} (Is : A → Type 0) (rest : A → Command) → ((value : A) (past : Past) (e : Ended) → CommandEnds (rest value) past e → e.status ≢ 7)
    → (past : Past) (e : Ended) → CommandEnds (find Is rest) past e → e.status ≢ 7
unfolding CommandEnds
find_not_refused Is rest later past e (inl (value, is, ends)) = later value past e ends
find_not_refused Is rest later past e (inr wants) = other_status e.status 6 wants.stops.status_is (λ is. cc)

-- a command that reads an input is not refused if what follows is not
read_not_refused : {A : Type 0} (input : Input A) (rest : A → Command) → ((value : A) (past : Past) (e : Ended) → CommandEnds (rest value) past e → e.status ≢ 7)
    → (past : Past) (e : Ended) → CommandEnds (read input rest) past e → e.status ≢ 7
unfolding CommandEnds
read_not_refused input rest later past e (inl ends) = input_not_refused input past e ends
read_not_refused input rest later past e (inr (bytes, has, (value, is, ends))) = later value past (record e { before = read_once e.before }) ends

never_ends_refused : (names : FleetNames) (e : Ended) → CommandEnds (fleet names) at_first e → e.status ≢ 7
unfolding fleet
never_ends_refused names e = read_not_refused _ _ (λ maker. read_not_refused _ _ (λ rows. read_not_refused _ _ (λ listed.
    find_not_refused (ServingComesTo maker rows listed) (keep_register names.register) (register_not_refused names.register)))) at_first e

register_comes_to_none : (name : List ℕ) (outcome : FleetOutcome) (files : List ℕ → Option (List ℕ)) → ComesToRefusal (keep_register name outcome) files → ⊥
unfolding ComesToRefusal
register_comes_to_none name (all_served text after) files (now, kept, never) = never
register_comes_to_none name text_too_long files never = never

never_comes_to_refusal : (names : FleetNames) (files : List ℕ → Option (List ℕ)) → ComesToRefusal (fleet names) files → ⊥
unfolding fleet ComesToRefusal
never_comes_to_refusal names files (root_bytes, root_there, (maker, root_is, (register_bytes, register_there, (rows, register_is, (items_bytes, items_there, (listed, items_is, (outcome, is, comes)))))))
    = register_comes_to_none names.register outcome files comes

pub fleet_not_refused : FleetIsNotRefused
fleet_not_refused = record { ends = never_ends_refused; comes = never_comes_to_refusal }
