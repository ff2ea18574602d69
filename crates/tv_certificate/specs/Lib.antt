pub mod CertificateReading
pub mod CertificateTexts
