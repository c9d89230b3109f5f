-- Which changes take a region's secrets.
use Rattle.std.specs.Prelude.{ℕ, if◌then◌else◌}
use Rattle.mb_model.specs.declared.entry.Entry.{Entry}
use Rattle.mb_model.specs.declared.entry.Entry.TheVariants.{Birth, Change, NewKey, Succession}
use Rattle.mb_model.specs.owners.Layers.{is_in}

-- the number of a change that does not keep region L; 0 for every other entry
abbrev pub loss : ℕ → Entry → ℕ
loss L (Birth version serial key layers) = 0
loss L (Change version position number kind layer cosigned layers kept next) = if is_in L kept then 0 else number
loss L (NewKey position number key_number layer kind key) = 0
loss L (Succession position key) = 0
