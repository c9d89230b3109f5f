-- The table of the commands: the name of each, and the kinds of the words after it, in their order. Which words call
-- which command?
use Rattle.std.specs.Prelude.{ℕ, List, [], ◌∷◌, codes}
use Rattle.mb_console.specs.Words.{Row}
use Rattle.mb_console.specs.declared.words.Kind.{Kind}
use Rattle.mb_console.specs.declared.words.Kind.TheVariants as kind
use Rattle.mb_top.specs.declared.table.Command.{Command}
use Rattle.mb_top.specs.declared.table.Command.TheVariants as command

-- the name of a file
abbrev pub a_file : Kind
a_file = kind.File

-- a number in decimal digits, from the first to the second
abbrev pub a_number : ℕ → ℕ → Kind
a_number least most = kind.Number least most

-- 1 to 16 bytes in hexadecimal digits
abbrev pub a_fill : Kind
a_fill = kind.Hex

-- a command, its name, and the kinds of the words after the name
abbrev pub row : Command → List ℕ → List Kind → Row Command
row called name kinds = (called, name, kinds)

-- the commands with their names and the kinds of the words after each
unfoldable pub commands : List (Row Command)
commands =
    -- ---- to make keys and devices
    -- keygen NOISE KEY PUBLIC
    row command.Keygen (codes "keygen") (a_file ∷ a_file ∷ a_file ∷ [])
    -- showkey KEY
    ∷ row command.Showkey (codes "showkey") (a_file ∷ [])
    -- factory NOISE KEY OWNER CODE IMAGE
    ∷ row command.Factory (codes "factory") (a_file ∷ a_file ∷ a_file ∷ a_file ∷ a_file ∷ [])
    -- hsskeygen NOISE LEVELS KEY PUBLIC
    ∷ row command.Hsskeygen (codes "hsskeygen") (a_file ∷ a_number 1 8 ∷ a_file ∷ a_file ∷ [])
    -- showmaker KEY
    ∷ row command.Showmaker (codes "showmaker") (a_file ∷ [])
    -- endorse KEY ROOT OUT
    ∷ row command.Endorse (codes "endorse") (a_file ∷ a_file ∷ a_file ∷ [])
    -- ---- to give orders
    -- showorder ORDER
    ∷ row command.Showorder (codes "showorder") (a_file ∷ [])
    -- ordered PUBLIC ORDER
    ∷ row command.Ordered (codes "ordered") (a_file ∷ a_file ∷ [])
    -- sign KEY DRAFT OUT
    ∷ row command.Sign (codes "sign") (a_file ∷ a_file ∷ a_file ∷ [])
    -- countersign KEY LAYER ORDER OUT
    ∷ row command.Countersign (codes "countersign") (a_file ∷ a_number 2 3 ∷ a_file ∷ a_file ∷ [])
    -- cosign KEY LAYER ORDER DRAFT OUT
    ∷ row command.Cosign (codes "cosign") (a_file ∷ a_number 2 3 ∷ a_file ∷ a_file ∷ a_file ∷ [])
    -- ---- to serve a device
    -- showimage IMAGE
    ∷ row command.Showimage (codes "showimage") (a_file ∷ [])
    -- run IMAGE SCRIPT NOISE
    ∷ row command.Run (codes "run") (a_file ∷ a_file ∷ a_file ∷ [])
    -- rehearse IMAGE SCRIPT NOISE
    ∷ row command.Rehearse (codes "rehearse") (a_file ∷ a_file ∷ a_file ∷ [])
    -- cutat IMAGE SCRIPT NOISE COUNT FILL
    ∷ row command.Cutat (codes "cutat") (a_file ∷ a_file ∷ a_file ∷ a_number 1 100000 ∷ a_fill ∷ [])
    -- chain IMAGE OUT
    ∷ row command.Chain (codes "chain") (a_file ∷ a_file ∷ [])
    -- attach CHAIN STATEMENT OUT
    ∷ row command.Attach (codes "attach") (a_file ∷ a_file ∷ a_file ∷ [])
    -- migrate IMAGE OUT
    ∷ row command.Migrate (codes "migrate") (a_file ∷ a_file ∷ [])
    -- generate NUMBER ROUNDS IMAGE SCRIPT NOISE
    ∷ row command.Generate (codes "generate") (a_number 0 4294967295 ∷ a_number 1 24 ∷ a_file ∷ a_file ∷ a_file ∷ [])
    -- ---- to verify what a device says of itself
    -- verify ROOT CHAIN KEYNUMBER
    ∷ row command.Verify (codes "verify") (a_file ∷ a_file ∷ a_number 0 4294967295 ∷ [])
    -- history ROOT CHAIN
    ∷ row command.History (codes "history") (a_file ∷ a_file ∷ [])
    -- audit IMAGE ROOT CHAIN KEYNUMBER
    ∷ row command.Audit (codes "audit") (a_file ∷ a_file ∷ a_file ∷ a_number 0 4294967295 ∷ [])
    -- trust ROOT CHAIN KEYNUMBER POLICY
    ∷ row command.Trust (codes "trust") (a_file ∷ a_file ∷ a_number 0 4294967295 ∷ a_file ∷ [])
    -- endorsed PUBLIC ROOT ENDORSEMENT
    ∷ row command.Endorsed (codes "endorsed") (a_file ∷ a_file ∷ a_file ∷ [])
    -- register OUT
    ∷ row command.Register (codes "register") (a_file ∷ [])
    -- enrol ROOT REGISTER CHAIN
    ∷ row command.Enrol (codes "enrol") (a_file ∷ a_file ∷ a_file ∷ [])
    -- devices REGISTER
    ∷ row command.Devices (codes "devices") (a_file ∷ [])
    -- fleet ROOT REGISTER ITEMS
    ∷ row command.Fleet (codes "fleet") (a_file ∷ a_file ∷ a_file ∷ [])
    -- ---- to write applications
    -- asm TEXT OUT
    ∷ row command.Asm (codes "asm") (a_file ∷ a_file ∷ [])
    -- disasm CODE OUT
    ∷ row command.Disasm (codes "disasm") (a_file ∷ a_file ∷ [])
    -- showcode CODE
    ∷ row command.Showcode (codes "showcode") (a_file ∷ [])
    -- appcode CODE INPUT STEPS
    ∷ row command.Appcode (codes "appcode") (a_file ∷ a_file ∷ a_number 1 10000000 ∷ [])
    -- callcode CODE SECRETS INPUT NEXT
    ∷ row command.Callcode (codes "callcode") (a_file ∷ a_file ∷ a_file ∷ a_file ∷ [])
    -- app IMAGE LAYER INPUT STEPS
    ∷ row command.App (codes "app") (a_file ∷ a_number 2 3 ∷ a_file ∷ a_number 1 10000000 ∷ [])
    ∷ []
