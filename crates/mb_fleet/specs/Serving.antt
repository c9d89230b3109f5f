-- What a register answers to items, line by line. Do the answers and the register at the end belong to the items?
use Rattle.std.specs.Prelude.{◌≡◌, ℕ, ◌<◌, ◌≤◌, List, [], ◌∷◌, ◌++◌, length, map, codes}
use Rattle.std.specs.Fmt.{decimal}
use Rattle.mb_model.specs.declared.key.PublicKey.{PublicKey}
use Rattle.mb_model.specs.chains.Lines.{spaced_words, hex_word, text_of}
use Rattle.mb_model_commands.specs.VerifyCommand.{chain_refusal_line}
use Rattle.mb_fleet.specs.declared.limits.TheConstants.{TEXT_LIMIT}
use Rattle.mb_fleet.specs.declared.row.Row.{Row}
use Rattle.mb_fleet.specs.declared.item.Item.{Item}
use Rattle.mb_fleet.specs.declared.item.Item.TheVariants.{Show, Find, Codes}
use Rattle.mb_fleet.specs.declared.question.CodeCount.{CodeCount}
use Rattle.mb_fleet.specs.Showing.{Answer, newly_added, same, extended, chain_refused, older, forked, full}
use Rattle.mb_fleet.specs.Showing.{IsChainAnswered}
use Rattle.mb_fleet.specs.Questions.{serials_with, AreCounts}

-- ---- lines

-- words, the serial of a device, and a number
abbrev pub device_line : List ℕ → List ℕ → ℕ → List ℕ
device_line words serial n = spaced_words (words ∷ hex_word serial ∷ decimal n ∷ [])

abbrev pub answer_line : Answer → List ℕ
answer_line (newly_added serial n) = device_line (codes "added") serial n
answer_line (same serial n) = device_line (codes "same") serial n
answer_line (extended serial n) = device_line (codes "extended") serial n
answer_line (chain_refused why) = chain_refusal_line why
answer_line (older serial have) = device_line (codes "refused 31 older") serial have
answer_line (forked serial place) = device_line (codes "refused 30 fork") serial place
answer_line full = codes "refused 32 full"

abbrev pub serial_line : List ℕ → List ℕ
serial_line serial = spaced_words (codes "serial" ∷ hex_word serial ∷ [])

abbrev pub count_line : CodeCount → List ℕ
count_line count = spaced_words (codes "code" ∷ hex_word count.hash ∷ decimal count.count ∷ [])

-- how many were found, and each of them
abbrev pub found_lines : List (List ℕ) → List (List ℕ)
found_lines serials = spaced_words (codes "found" ∷ decimal (length serials) ∷ []) ∷ map serial_line serials

-- how many codes there are, and each of them
abbrev pub count_lines : List CodeCount → List (List ℕ)
count_lines counts = spaced_words (codes "codes" ∷ decimal (length counts) ∷ []) ∷ map count_line counts

-- ---- items

-- what one item comes to: its lines, and the rows afterwards
abbrev pub FleetStep : PublicKey → List Row → Item → List (List ℕ) → List Row → Type 0
FleetStep maker rows (Show chain) lines after =
    (answer : Answer) × IsChainAnswered maker rows chain answer after × (lines ≡ answer_line answer ∷ [])
FleetStep maker rows (Find layer hash) lines after =
    (lines ≡ found_lines (serials_with layer hash rows)) × (after ≡ rows)
FleetStep maker rows (Codes layer) lines after =
    (counts : List CodeCount) × AreCounts layer rows counts × (lines ≡ count_lines counts) × (after ≡ rows)

-- what items come to, one after another: all their lines, and the rows at the end
abbrev pub FleetRun : PublicKey → List Row → List Item → List (List ℕ) → List Row → Type 0
FleetRun maker rows [] lines after = (lines ≡ []) × (after ≡ rows)
FleetRun maker rows (item ∷ listed) lines after =
    (first : List (List ℕ)) × (rest : List (List ℕ)) × (between : List Row) × FleetStep maker rows item first between
    × FleetRun maker between listed rest after × (lines ≡ first ++ rest)

-- the text of all answers to items, which is short enough, and the rows at the end
pub record AreServed (maker : PublicKey) (rows : List Row) (listed : List Item) (text : List ℕ)
    (after : List Row) : Type 0 where
  pub lines : List (List ℕ)
  pub run : FleetRun maker rows listed lines after
  pub text_is : text ≡ text_of lines
  pub short : length text ≤ TEXT_LIMIT

-- the text of the answers to a prefix of the items is too long
pub record IsTooLong (maker : PublicKey) (rows : List Row) (listed : List Item) : Type 0 where
  pub front : List Item
  pub rest : List Item
  pub split : listed ≡ front ++ rest
  pub lines : List (List ℕ)
  pub after : List Row
  pub run : FleetRun maker rows front lines after
  pub long : TEXT_LIMIT < length (text_of lines)
