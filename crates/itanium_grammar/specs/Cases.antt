-- The cases of each production, as the code has them.
pub use Rattle.itanium_syntax.specs.declared.encodings.EncodingCase.{EncodingCase}
pub use Rattle.itanium_syntax.specs.declared.encodings.EncodingCase.TheVariants.{SpecialEncoding, NameEncoding, FullEncoding}
pub use Rattle.itanium_syntax.specs.declared.names.NameCase.{NameCase}
pub use Rattle.itanium_syntax.specs.declared.names.NameCase.TheVariants.{NestedName, LocalName, UnscopedName}
pub use Rattle.itanium_syntax.specs.declared.names.UnscopedCase.{UnscopedCase}
pub use Rattle.itanium_syntax.specs.declared.names.UnscopedCase.TheVariants.{StdName, SubstitutionName, PlainName}
pub use Rattle.itanium_syntax.specs.declared.names.FirstSegmentCase.{FirstSegmentCase}
pub use Rattle.itanium_syntax.specs.declared.names.FirstSegmentCase.TheVariants.{TemplateParamFirst, StdFirst, SubstitutionFirst, NameFirst}
pub use Rattle.itanium_syntax.specs.declared.names.SegmentCase.{SegmentCase}
pub use Rattle.itanium_syntax.specs.declared.names.SegmentCase.TheVariants.{EndOfSegments, ArgsSegment, NameSegment}
pub use Rattle.itanium_syntax.specs.declared.names.UnqualifiedCase.{UnqualifiedCase}
pub use Rattle.itanium_syntax.specs.declared.names.UnqualifiedCase.TheVariants.{ConstructorName, DestructorName, OrdinaryName}
pub use Rattle.itanium_syntax.specs.declared.names.OrdinaryCase.{OrdinaryCase}
pub use Rattle.itanium_syntax.specs.declared.names.OrdinaryCase.TheVariants.{SourceName, UnnamedTypeName, LambdaName, ConversionName, LiteralOperatorName, OperatorName, UnreadableName}
pub use Rattle.itanium_syntax.specs.declared.names.TagCase.{TagCase}
pub use Rattle.itanium_syntax.specs.declared.names.TagCase.TheVariants.{NoTag, NextTag}
pub use Rattle.itanium_syntax.specs.declared.encodings.EncodingEnd.{EncodingEnd}
pub use Rattle.itanium_syntax.specs.declared.encodings.EncodingEnd.TheVariants.{AfterName, AtE}
pub use Rattle.itanium_syntax.specs.declared.encodings.ReturnCase.{ReturnCase}
pub use Rattle.itanium_syntax.specs.declared.encodings.ReturnCase.TheVariants.{NoReturnType, SomeReturnType}
pub use Rattle.itanium_syntax.specs.declared.encodings.EncodingParamsCase.{EncodingParamsCase}
pub use Rattle.itanium_syntax.specs.declared.encodings.EncodingParamsCase.TheVariants.{NoEncodingParams, SomeEncodingParams}
pub use Rattle.itanium_syntax.specs.declared.encodings.EntityCase.{EntityCase}
pub use Rattle.itanium_syntax.specs.declared.encodings.EntityCase.TheVariants.{StringLiteralEntity, DefaultArgumentEntity, NameEntity, UnreadableEntity}
pub use Rattle.itanium_syntax.specs.declared.names.SubstitutionCase.{SubstitutionCase}
pub use Rattle.itanium_syntax.specs.declared.names.SubstitutionCase.TheVariants.{AbbreviationSubstitution, ComponentSubstitution}
pub use Rattle.itanium_syntax.specs.declared.args.AttachedCase.{AttachedCase}
pub use Rattle.itanium_syntax.specs.declared.args.AttachedCase.TheVariants.{NoneAttached, ArgsAttached}
pub use Rattle.itanium_syntax.specs.declared.args.ArgumentListCase.{ArgumentListCase}
pub use Rattle.itanium_syntax.specs.declared.args.ArgumentListCase.TheVariants.{EndOfArguments, NextArgument}
pub use Rattle.itanium_syntax.specs.declared.args.ArgumentCase.{ArgumentCase}
pub use Rattle.itanium_syntax.specs.declared.args.ArgumentCase.TheVariants.{ExpressionArgument, PackArgument, PrimaryArgument, ConstraintArgument, TypeArgument}
pub use Rattle.itanium_syntax.specs.declared.expressions.PrimaryCase.{PrimaryCase}
pub use Rattle.itanium_syntax.specs.declared.expressions.PrimaryCase.TheVariants.{ExternalName, ValueLiteral, UnreadablePrimary}
pub use Rattle.itanium_syntax.specs.declared.expressions.ExpressionCase.{ExpressionCase}
pub use Rattle.itanium_syntax.specs.declared.expressions.ExpressionCase.TheVariants.{PreExpression, AddressExpression}
pub use Rattle.itanium_syntax.specs.declared.expressions.ExpressionCase.TheVariants.{UnaryExpression, PostExpression}
pub use Rattle.itanium_syntax.specs.declared.expressions.ExpressionCase.TheVariants.{BinaryExpression}
pub use Rattle.itanium_syntax.specs.declared.expressions.ExpressionCase.TheVariants.{GreaterExpression}
pub use Rattle.itanium_syntax.specs.declared.expressions.ExpressionCase.TheVariants.{ConditionalExpression}
pub use Rattle.itanium_syntax.specs.declared.expressions.ExpressionCase.TheVariants.{TemplateParamExpression}
pub use Rattle.itanium_syntax.specs.declared.expressions.ExpressionCase.TheVariants.{PrimaryExpression, UnreadableExpression}
pub use Rattle.itanium_syntax.specs.declared.specials.SpecialCase.{SpecialCase}
pub use Rattle.itanium_syntax.specs.declared.specials.SpecialCase.TheVariants.{TypeSpecial, NameSpecial, TemporarySpecial, ConstructionSpecial, ThunkSpecial, UnreadableSpecial}
pub use Rattle.itanium_syntax.specs.declared.types.TypeCase.{TypeCase}
pub use Rattle.itanium_syntax.specs.declared.types.TypeCase.TheVariants.{BuiltinType, ExpansionType, VendorType}
pub use Rattle.itanium_syntax.specs.declared.types.TypeCase.TheVariants.{ArrayType, FunctionType, PointerToMemberType}
pub use Rattle.itanium_syntax.specs.declared.types.TypeCase.TheVariants.{PointerType, CvType, ElaboratedType}
pub use Rattle.itanium_syntax.specs.declared.types.TypeCase.TheVariants.{TemplateParamType, SubstitutionType, UnreadableType}
pub use Rattle.itanium_syntax.specs.declared.types.TypeCase.TheVariants.{NameType}
pub use Rattle.itanium_syntax.specs.declared.types.CvCase.{CvCase}
pub use Rattle.itanium_syntax.specs.declared.types.CvCase.TheVariants.{CvFunction, CvOther}
pub use Rattle.itanium_syntax.specs.declared.types.FunctionCase.{FunctionCase}
pub use Rattle.itanium_syntax.specs.declared.types.FunctionCase.TheVariants.{ExternFunction, PlainFunction}
pub use Rattle.itanium_syntax.specs.declared.types.ParamsCase.{ParamsCase}
pub use Rattle.itanium_syntax.specs.declared.types.ParamsCase.TheVariants.{NoParams, SomeParams}
pub use Rattle.itanium_syntax.specs.declared.types.TypeListCase.{TypeListCase}
pub use Rattle.itanium_syntax.specs.declared.types.TypeListCase.TheVariants.{EndOfTypes, NextType}
