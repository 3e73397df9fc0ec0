pub mod DecodedLine
pub mod NumberBytes
pub mod RecordParts
pub mod RoundTrip
pub mod ZeroBytes
