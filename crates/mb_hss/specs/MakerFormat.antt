-- How a maker's file is spelled. Which maker do these bytes hold, and how many of its numbers are used?
use Rattle.std.specs.Prelude.{ℕ, ◌^◌, List, [], ◌∷◌}
use Rattle.std.specs.Int.{w8, w64}
use Rattle.mb_format.specs.Format.{Format}
use Rattle.mb_format.specs.Combinators.{raw, between, mark, both, pair, as_record, then_value}
use Rattle.mb_hss.specs.declared.limits.TheConstants.{LEVEL_LIMIT}
use Rattle.mb_hss.specs.declared.maker.Maker.{Maker}

-- the first four bytes of a maker's file: MBK2
abbrev pub maker_word : List ℕ
maker_word = 0x4D ∷ 0x42 ∷ 0x4B ∷ 0x32 ∷ []

-- a maker's file: its word, the number of levels, the seed, and the next number, which the levels bound
unfoldable pub maker_format : Format Maker
maker_format = then_value (mark maker_word) (as_record
    (both (between w8 1 LEVEL_LIMIT) (λ levels. pair (raw 32) (between w64 0 (32 ^ levels))))
    (λ (levels, (seed, next)). record { levels = levels; seed = seed; next = next })
    (λ maker. (maker.levels, (maker.seed, maker.next))))
