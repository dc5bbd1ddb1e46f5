-- The code's parts and tokens as columns of a line.
use Rattle.book.specs.declared.token.Part.{Part}
use Rattle.book.specs.declared.token.Token.{Token}
use Rattle.book.specs.declared.token.Token.TheVariants.{Decimal, Octal, Dash, LineEnd}
use Rattle.book.specs.Column.{Span, Column, decimal, octal, dash, end}

-- What a part lends, and where it stands.
abbrev pub span_of : Part → Span
span_of p = record { bytes = p.bytes.now; line = p.line; column = p.column }

-- What a token found.
abbrev pub column_of : Token → Column
column_of (Decimal p) = decimal (span_of p)
column_of (Octal p) = octal (span_of p)
column_of (Dash p) = dash (span_of p)
column_of (LineEnd p) = end (span_of p)
