use Rattle.std.specs.Prelude.{ℕ, List, ◌++◌, decimal}
use Rattle.text.specs.declared.buffer.Text.{Text}

-- how many bytes a text holds at most
unfoldable pub room : ℕ
room = 320

-- the bytes of a text, in the order in which they were written
unfoldable pub written : Text → List ℕ
written t = t.bytes.items

-- a word, and a text after it
unfoldable pub tagged : (word text : List ℕ) → List ℕ
tagged word text = word ++ text

-- a word and a number
abbrev pub labelled : List ℕ → ℕ → List ℕ
labelled word n = tagged word (decimal n)
