-- Quoted text as bytes.
use Rattle.std.specs.Prelude.{ℕ, List}
use Prim.Native.Char.{code}
use Prim.Native.String.{String, [], ◌∷◌}

-- R61: the bytes of a text, all of whose characters are ASCII.
unfoldable pub ascii : String → List ℕ
ascii [] = List.[]
ascii (c ∷ s) = List.◌∷◌ (code c) (ascii s)
