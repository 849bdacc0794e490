-- Where no line is left.
use Rattle.std.proofs.Common.{◌≡◌, List, [], ◌∷◌, Ok, refl}
use Rattle.text_line_reader.specs.Lines.{Line}
use Rattle.text_line_reader.specs.Rows.{end_at}

pub end_is : (ls : List Line) (u : Unit {0}) → end_at ls ≡ Ok u → ls ≡ []
unfolding end_at
end_is [] u e = refl
end_is (l ∷ ls) u e = absurd cc

pub end_again : end_at [] ≡ Ok tt
unfolding end_at
end_again = refl
