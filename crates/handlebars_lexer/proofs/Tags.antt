-- Tags: what is read at the start of a text is there, if none is read there is none, and the tag is unique.
use Rattle.std.proofs.Common.{◌≡◌, Bool, true, ◌++◌, Some, None, refl, sym, ap, subst, ◌∙◌}
use Rattle.std.proofs.lemmas.Option.{same_Some, none-some}
use Rattle.handlebars_base.specs.Bytes.{Text}
use Rattle.handlebars_base.specs.Texts.{IsSuffix}
use Rattle.handlebars_base.proofs.Ends.{end-after}
use Rattle.handlebars_lexer.specs.Kind.{TagBeginning, beginning_of}
use Rattle.handlebars_lexer.specs.Tag.{Tag, Tildes, IsTag, NoTag}
use Rattle.handlebars_lexer.specs.TagView.{IsClosed, NoneClosed, HasInside, HasTag}
use Rattle.handlebars_lexer.specs.declared.tag.inside.Inside.{Inside}
use Rattle.handlebars_lexer.proofs.Beginnings.{begun}
use Rattle.handlebars_lexer.proofs.TagEnds.{end-closed}

-- ---- what is inside a tag is closed

-- a tag at the start of the text, with this beginning
pub tag-closed : (sections : Bool) (left token rest : Text) (b : TagBeginning) (t : Tag) (tildes : Tildes) → beginning_of left ≡ Some b → left ≡ token ++ rest → IsTag sections token rest t tildes
    → IsClosed sections b.kind b.inside t tildes.right rest × (b.tilde ≡ tildes.left)
tag-closed sections left token rest b t tildes e whole is =
    let same : is.begins ≡ b = same_Some is.begins b (sym is.is_beginning ∙ ap beginning_of (sym whole) ∙ e) in (
      subst (λ (z : TagBeginning). IsClosed sections z.kind z.inside t tildes.right rest) same (record { after = is.after; says = is.says; closes = is.closes }),
      ap (λ (z : TagBeginning). z.tilde) (sym same) ∙ is.left,
    )

-- ---- if none is read

pub none-beginning : (sections : Bool) (left : Text) → beginning_of left ≡ None → NoTag sections left
none-beginning sections left none token rest t tildes whole is = none-some is.begins (sym none ∙ ap beginning_of whole ∙ is.is_beginning)

pub none-inside : (left : Text) (b : TagBeginning) → beginning_of left ≡ Some b → NoneClosed b.kind b.inside → NoTag true left
none-inside left b e none token rest t tildes whole is =
    let h = tag-closed true left token rest b t tildes e whole is in
    none t tildes.right rest h.0

-- ---- what is read

pub end-inside : (left : Text) (b : TagBeginning) (i : Inside) → beginning_of left ≡ Some b → HasInside b.kind b.inside i → IsSuffix left i.rest.now
end-inside left b i e h = end-after left b.inside i.rest.now (begun left b e).end (end-closed true b.kind b.inside h.tag i.right i.rest.now h.is)

pub tag_read : (left : Text) (b : TagBeginning) (i : Inside) (long_ahead : Bool) → beginning_of left ≡ Some b → HasInside b.kind b.inside i
    → HasTag left (record { content = i.content; left = b.tilde; right = i.right; depth = i.depth; rest = i.rest; long_ahead = long_ahead })
tag_read left b i long_ahead e h =
    let end = end-inside left b i e h in
    record {
      token = end.0;
      tag = h.tag;
      whole = end.1;
      is_tag = record {
        begins = b;
        after = h.is.after;
        is_beginning = ap beginning_of (sym end.1) ∙ e;
        left = refl;
        says = h.is.says;
        closes = h.is.closes;
      };
      deep = h.deep;
      holds = h.holds;
    }
