-- Which instructions stand before a place of a code, which of them stands at it, and which marks they leave.
use Rattle.std.proofs.Common.{◌≡◌, ℕ, ◌+◌, ◌-◌, ◌<◌, ◌≤◌, ◌==◌, inl, inr, Bool, true, false, ◌||◌, List, [], ◌∷◌, ◌++◌, length, take, drop, refl, sym, ap, subst, ◌∙◌, arith, append_assoc, length-append, length-take, length-drop}
use Rattle.std.specs.Prelude.{All, set, replicate}
use Rattle.std.specs.List.{list_any}
use Rattle.std.proofs.Math.Bool.{or-false, or-true}
use Rattle.std.proofs.lemmas.Bool.{cases_eq, cases_lt, eq-eqb, ne_eqb}
use Rattle.std.proofs.lemmas.Grind.{flat_map-append}
use Rattle.std.proofs.lemmas.List.{take-append-drop, take_all, drop_at, flat_map_more, get_or-set_same, get_or-set_other, get_or-replicate, get_or_past, length-set, length-replicate}
use Rattle.std.proofs.lemmas.List.Elements.{All-nil, All-push}
use Rattle.std.proofs.lemmas.List.Concat.{flat_map-cons}
use Rattle.std.proofs.lemmas.List.Folds.{list_any-append}
use Rattle.mb_format.specs.Format.{IsBytes}
use Rattle.mb_format.proofs.Exact.{IsClear-from_exact}
use Rattle.mb_model.specs.declared.instruction.Instruction.{Instruction}
use Rattle.mb_model.specs.declared.instruction.Instruction.TheVariants as instruction
use Rattle.mb_model.specs.application.Instructions.{instruction_format, Stands}
use Rattle.mb_model_lemmas.proofs.InstructionLemmas.{instruction_exact}
use Rattle.mb_appvm.specs.Listing.{listing_bytes, LacksInstruction}
use Rattle.mb_appvm.proofs.Listings.{take_next}
use Rattle.mb_assembler.specs.declared.marks.Marks.{Marks}
use Rattle.mb_assembler.specs.Labelled.{PlacedInstruction, placed_from, goes_to}
use Rattle.mb_assembler.specs.Marks.{is_marked, AreMarks, with_target, AddsMarks, HasMarks}

-- ---- before a place

-- these instructions stand before a place
pub record AreBefore (code : List ℕ) (place : ℕ) (listed : List Instruction) : Type 0 where
  pub allowed : All instruction_format.Allowed listed
  pub within : place ≤ length code
  pub front : take place code ≡ listing_bytes listed

pub bytes_more : (listed : List Instruction) (it : Instruction) → listing_bytes (listed ++ it ∷ []) ≡ listing_bytes listed ++ instruction_format.spelling it
bytes_more listed it = sym (flat_map_more instruction_format.spelling [] listed it)

pub before_more : (code : List ℕ) (place next : ℕ) (it : Instruction) (listed : List Instruction) → AreBefore code place listed → Stands code place it next
    → AreBefore code next (listed ++ it ∷ [])
before_more code place next it listed is stands = record {
  allowed = All-push instruction_format.Allowed listed it is.allowed stands.allowed;
  within = stands.within;
  front = take_next code place next it stands ∙ ap (λ (x : List ℕ). x ++ instruction_format.spelling it) is.front ∙ sym (bytes_more listed it);
}

long : (code : List ℕ) (place : ℕ) (listed : List Instruction) → AreBefore code place listed → place ≡ length (listing_bytes listed)
long code place listed is = omega (arith, ap length is.front, length-take place code, is.within)

pub lacks_after : (code : List ℕ) (place : ℕ) (listed : List Instruction) → AreBefore code place listed → place < length code
    → ((it : Instruction) (next : ℕ) → Stands code place it next → ⊥) → LacksInstruction code place
lacks_after code place listed is some none = record {
  listed = listed;
  rest = drop place code;
  allowed = is.allowed;
  split = sym (take-append-drop place code) ∙ ap (λ (x : List ℕ). x ++ drop place code) is.front;
  here = long code place listed is;
  some = λ empty. omega (arith, some, ap length empty, length-drop place code);
  none = none;
}

-- an instruction at a place
abbrev pub instruction_at : ℕ → Instruction → PlacedInstruction
instruction_at place it = record { place = place; it = it }

placed_more : (start : ℕ) (listed : List Instruction) (it : Instruction)
    → placed_from start (listed ++ it ∷ []) ≡ placed_from start listed ++ instruction_at (start + length (listing_bytes listed)) it ∷ []
placed_more start [] it =
    let none : length (listing_bytes []) ≡ 0 = refl in
    let same : start ≡ start + length (listing_bytes []) = omega (arith, none) in
    ap (λ (n : ℕ). instruction_at n it ∷ []) same
placed_more start (first ∷ listed) it =
    let size = length (instruction_format.spelling first) in
    let sum : start + size + length (listing_bytes listed) ≡ start + length (listing_bytes (first ∷ listed)) =
    omega (arith, ap length (flat_map-cons instruction_format.spelling first listed), length-append (instruction_format.spelling first) (listing_bytes listed)) in
    let more = placed_more (start + size) listed it
    ∙ ap (λ (n : ℕ). placed_from (start + size) listed ++ instruction_at n it ∷ []) sum in
    ap (λ (rest : List PlacedInstruction). instruction_at start first ∷ rest) more

pub placed_at : (place : ℕ) (listed : List Instruction) (it : Instruction) → place ≡ length (listing_bytes listed)
    → placed_from 0 (listed ++ it ∷ []) ≡ placed_from 0 listed ++ instruction_at place it ∷ []
placed_at place listed it is =
    let same : 0 + length (listing_bytes listed) ≡ place = omega (arith, is) in
    placed_more 0 listed it ∙ ap (λ (n : ℕ). placed_from 0 listed ++ instruction_at n it ∷ []) same

-- ---- marks

any_more : (test : PlacedInstruction → Bool) (all : List PlacedInstruction) (one : PlacedInstruction)
    → list_any test (all ++ one ∷ []) ≡ (list_any test all || test one)
any_more test all one = list_any-append test all (one ∷ []) ∙ ap (λ (b : Bool). list_any test all || b) (or-false (test one))

marked_other : (marks : List Bool) (at place : ℕ) → (place ≡ at → ⊥) → is_marked (set marks at true) place ≡ (is_marked marks place || (at == place))
marked_other marks at place other =
    get_or-set_other marks at place true false other
    ∙ sym (ap (λ (b : Bool). is_marked marks place || b) (ne_eqb at place (λ same. other (sym same))) ∙ or-false (is_marked marks place))

marked_here : (marks : List Bool) (at : ℕ) → at < length marks → is_marked (set marks at true) at ≡ (is_marked marks at || (at == at))
marked_here marks at within =
    get_or-set_same marks at true false within
    ∙ sym (ap (λ (b : Bool). is_marked marks at || b) (eq-eqb at at refl) ∙ or-true (is_marked marks at))

-- a table with one mark more
marked_more : (marks : List Bool) (at place : ℕ) → at < length marks → is_marked (set marks at true) place ≡ (is_marked marks place || (at == place))
marked_more marks at place within =
    elim (cases_eq place at) [
      | inl same ↦ subst (λ (n : ℕ). is_marked (set marks at true) n ≡ (is_marked marks n || (at == n))) (sym same) (marked_here marks at within)
      | inr other ↦ marked_other marks at place other
    ]

unmarked : (size place : ℕ) → is_marked (replicate size false) place ≡ false
unmarked size place =
    elim (cases_lt place size) [
      | inl within ↦ get_or-replicate size place false false within
      | inr past ↦ get_or_past (replicate size false) place false (omega (arith, past, length-replicate size false))
    ]

-- what a mark more of a target says of the places in the table
target_more : (targets : List Bool) (size to place : ℕ) → length targets ≡ size → place < size → is_marked (set targets to true) place ≡ (is_marked targets place || (to == place))
target_more targets size to place count within =
    elim (cases_eq place to) [
      | inl same ↦ marked_more targets to place (omega (arith, same, within, count))
      | inr other ↦ marked_other targets to place other
    ]

target_marked : (targets : List Bool) (size : ℕ) (it : Instruction) (place : ℕ) → length targets ≡ size → place < size
    → is_marked (with_target it targets) place ≡ (is_marked targets place || goes_to place it)
target_marked targets size (instruction.Jump to) place count within = target_more targets size to place count within
target_marked targets size (instruction.JumpZero to) place count within = target_more targets size to place count within
target_marked targets size (instruction.Call to) place count within = target_more targets size to place count within
target_marked targets size (instruction.Plain kind) place count within = sym (or-false (is_marked targets place))
target_marked targets size (instruction.Push number) place count within = sym (or-false (is_marked targets place))
target_marked targets size (instruction.Get name) place count within = sym (or-false (is_marked targets place))

targets_kept : (targets : List Bool) (it : Instruction) → length (with_target it targets) ≡ length targets
targets_kept targets (instruction.Jump to) = length-set targets to true
targets_kept targets (instruction.JumpZero to) = length-set targets to true
targets_kept targets (instruction.Call to) = length-set targets to true
targets_kept targets (instruction.Plain kind) = refl
targets_kept targets (instruction.Push number) = refl
targets_kept targets (instruction.Get name) = refl

marks_more : (size place : ℕ) (it : Instruction) (all : List PlacedInstruction) (old new : Marks) → AreMarks size all old → AddsMarks old place it new → place < size
    → AreMarks size (all ++ instruction_at place it ∷ []) new
marks_more size place it all old new are adds within = record {
  instruction_count = ap length adds.instructions ∙ length-set old.instructions.items place true ∙ are.instruction_count;
  target_count = ap length adds.targets ∙ targets_kept old.targets.items it ∙ are.target_count;
  stands = λ at. ap (λ (marks : List Bool). is_marked marks at) adds.instructions
      ∙ marked_more old.instructions.items place at (omega (arith, within, are.instruction_count))
      ∙ ap (λ (b : Bool). b || (place == at)) (are.stands at)
      ∙ sym (any_more (λ (each : PlacedInstruction). each.place == at) all (instruction_at place it));
  reached = λ at there. ap (λ (marks : List Bool). is_marked marks at) adds.targets
      ∙ target_marked old.targets.items size it at are.target_count there
      ∙ ap (λ (b : Bool). b || goes_to at it) (are.reached at there)
      ∙ sym (any_more (λ (each : PlacedInstruction). goes_to at each.it) all (instruction_at place it));
}

-- the instructions before a place are marked
pub record AreMarkedTo (code : List ℕ) (place : ℕ) (marks : Marks) : Type 0 where
  pub listed : List Instruction
  pub before : AreBefore code place listed
  pub marked : AreMarks (length code) (placed_from 0 listed) marks

pub none_marked : (code : List ℕ) (size : ℕ) (marks : Marks) → size ≡ length code → marks.instructions.items ≡ replicate size false → marks.targets.items ≡ replicate size false
    → AreMarkedTo code 0 marks
none_marked code size marks same instructions targets = record {
  listed = [];
  before = record { allowed = All-nil instruction_format.Allowed; within = omega arith; front = refl };
  marked = record {
    instruction_count = ap length instructions ∙ length-replicate size false ∙ same;
    target_count = ap length targets ∙ length-replicate size false ∙ same;
    stands = λ at. ap (λ (table : List Bool). is_marked table at) instructions ∙ unmarked size at;
    reached = λ at within. ap (λ (table : List Bool). is_marked table at) targets ∙ unmarked size at;
  };
}

pub one_marked : (code : List ℕ) (place next : ℕ) (it : Instruction) (old new : Marks) → AreMarkedTo code place old → Stands code place it next → AddsMarks old place it new
    → place < length code → AreMarkedTo code next new
one_marked code place next it old new are stands adds some = record {
  listed = are.listed ++ it ∷ [];
  before = before_more code place next it are.listed are.before stands;
  marked = subst (λ (all : List PlacedInstruction). AreMarks (length code) all new) (sym (placed_at place are.listed it (long code place are.listed are.before)))
      (marks_more (length code) place it (placed_from 0 are.listed) old new are.marked adds some);
}

pub all_marked : (code : List ℕ) (place : ℕ) (marks : Marks) → AreMarkedTo code place marks → length code ≤ place → HasMarks code marks
all_marked code place marks are all = record {
  listed = are.listed;
  allowed = are.before.allowed;
  whole = sym (take_all place code all) ∙ are.before.front;
  marked = are.marked;
}

-- ---- at a place

-- the instruction after the first ones of a code stands at the next place
pub stands_next : (code : List ℕ) (done rest : List Instruction) (it : Instruction) → instruction_format.Allowed it → code ≡ listing_bytes (done ++ it ∷ rest)
    → Stands code (length (listing_bytes done)) it (length (listing_bytes done) + length (instruction_format.spelling it))
stands_next code done rest it allowed whole =
    let front = listing_bytes done in
    let own = instruction_format.spelling it in
    let later = listing_bytes rest in
    let parts : code ≡ front ++ (own ++ later) = whole ∙ flat_map-append instruction_format.spelling done (it ∷ rest)
    ∙ ap (λ (x : List ℕ). front ++ x) (flat_map-cons instruction_format.spelling it rest) in
    let ended : code ≡ (front ++ own) ++ later = parts ∙ sym (append_assoc front own later) in
    let left : drop (length front + length own) code ≡ later =
    ap (drop (length front + length own)) ended ∙ drop_at (front ++ own) later (length front + length own) (length-append front own) in
    record {
      allowed = allowed;
      here = ap (drop (length front)) parts ∙ drop_at front (own ++ later) (length front) refl ∙ ap (λ (x : List ℕ). own ++ x) (sym left);
      ends = refl;
      within = omega (arith, ap length ended, length-append (front ++ own) later, length-append front own);
    }

pub same_instruction : (code : List ℕ) (place m n : ℕ) (it other : Instruction) → IsBytes code → Stands code place it m → Stands code place other n → (it ≡ other) × (m ≡ n)
same_instruction code place m n it other are one two =
    (IsClear-from_exact instruction_exact).one_value code place it other m n (record { are_bytes = are; within = omega (arith, one.ends, one.within) }) one two
