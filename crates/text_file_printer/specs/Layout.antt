-- The canonical text a second time, of its tokens alone: one form a line, one space between two tokens, but none behind ( and none before ).
use Rattle.std.specs.Prelude.{ℕ, zero, suc, List, [], ◌∷◌, ◌++◌, codes}
use Rattle.std.specs.Fmt.{signed_decimal}
use Rattle.text_words.specs.Tokens.{Lexeme, Opens, Closes}
use Rattle.text_words.specs.Tokens as token

abbrev pub token_text : Lexeme → List ℕ
token_text Opens = codes "("
token_text Closes = codes ")"
token_text (token.Name text) = text
token_text (token.Int value) = signed_decimal value
token_text token.Other = []

-- how many parentheses are open behind a token, where this many are before it
abbrev pub open_behind : Lexeme → ℕ → ℕ
open_behind Opens depth = suc depth
open_behind Closes zero = zero
open_behind Closes (suc depth) = depth
open_behind (token.Name text) depth = depth
open_behind (token.Int value) depth = depth
open_behind token.Other depth = depth

-- a space before these tokens, but none before ) and none at the end
abbrev pub space_before : List Lexeme → List ℕ
space_before [] = []
space_before (Opens ∷ ts) = codes " "
space_before (Closes ∷ ts) = []
space_before (token.Name text ∷ ts) = codes " "
space_before (token.Int value ∷ ts) = codes " "
space_before (token.Other ∷ ts) = codes " "

-- what stands between a token and those behind it, where this many parentheses are open: a line ends where none is
abbrev pub gap : ℕ → Lexeme → List Lexeme → List ℕ
gap zero t ts = codes "\n"
gap (suc depth) Opens ts = []
gap (suc depth) Closes ts = space_before ts
gap (suc depth) (token.Name text) ts = space_before ts
gap (suc depth) (token.Int value) ts = space_before ts
gap (suc depth) token.Other ts = space_before ts

-- tokens with what stands between them, where this many parentheses are open
abbrev pub laid_out_in : ℕ → List Lexeme → List ℕ
laid_out_in depth [] = []
laid_out_in depth (t ∷ ts) = token_text t ++ (gap (open_behind t depth) t ts ++ laid_out_in (open_behind t depth) ts)

abbrev pub laid_out : List Lexeme → List ℕ
laid_out ts = laid_out_in 0 ts
