pub mod Paragraph
