-- What a slice holds after the words were written into it.
use Rattle.std.specs.Prelude.{ℕ, List, ◌++◌, length, take, drop}

-- a lent slice after numbers were written into it from the left, as many as it holds; the rest of it stays as lent
unfoldable pub filled : List ℕ → List ℕ → List ℕ
filled ns before = take (length before) ns ++ drop (length ns) before
