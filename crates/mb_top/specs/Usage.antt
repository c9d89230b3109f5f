-- What `--help` prints: for each group of commands what they are for, and for each command its name and words on a
-- line, and then what it does. Is each command listed, with the words that call it?
use Rattle.std.specs.Prelude.{ℕ, ◌≤◌, List, [], ◌∷◌, ◌++◌, codes, flat_map}
use Rattle.mb_console.specs.declared.words.TheConstants.{WORD_LIMIT}
use Rattle.mb_top.specs.declared.table.TheConstants.{GROUPS}
use Rattle.mb_top.specs.declared.command_line.TheConstants.{HEAD, STATUSES}

-- the text about a command: its name, the words after it with a space before each, and what it does
abbrev pub usage_line : List ℕ → List ℕ → List ℕ → List ℕ
usage_line name words does = codes "  miniboot " ++ name ++ words ++ does ++ codes "\n"

-- the text about a group of commands: a line of its own that says what they are for, and then the text about each
abbrev pub group_text : List ℕ → List ℕ → List ℕ
group_text heading lines = codes "\n" ++ heading ++ codes ":\n" ++ lines

unfoldable pub usage : List ℕ
usage = HEAD.now
    ++ flat_map (λ group. group_text group.0.now (flat_map (λ row.
    usage_line row.1.now (flat_map (λ word. 32 ∷ word.0.now) row.2.now) row.3.now) group.1.now)) GROUPS
    ++ STATUSES.now

-- no row of a table has more words than a command may have
abbrev pub AllFit : {R : Type 0} → (R → ℕ) → List R → Type 0
AllFit count [] = Unit {0}
AllFit count (row ∷ rows) = (count row ≤ WORD_LIMIT) × AllFit count rows
