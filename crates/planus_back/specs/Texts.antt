use Rattle.std.specs.Prelude.{ℕ, List, codes}

-- the error's message
abbrev pub too_large_text : List ℕ
too_large_text = codes "too large"
