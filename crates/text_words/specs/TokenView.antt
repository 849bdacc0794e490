-- What the code's tokens say, and not where they lie in memory.
use Rattle.text_words.specs.Bytes.{int_value}
use Rattle.text_words.specs.Tokens.{Lexeme, Opens, Closes, Name, Int, Other}
use Rattle.text_words.specs.declared.lexer.Token.{Token}
use Rattle.text_words.specs.declared.lexer.Token.TheVariants as code

abbrev pub view : Token → Lexeme
view code.Open = Opens
view code.Close = Closes
view (code.Name text) = Name text.now
view (code.Int numeral) = Int (int_value numeral.text.now)
view code.Other = Other
